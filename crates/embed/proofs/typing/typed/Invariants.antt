use Rattle.std.proofs.Common.{length}
use Rattle.console.specs.Answers.{state_of}
use Rattle.embed.specs.Consoles.{Typed}
use Rattle.embed.proofs.typing.typed.Given as goal

abbrev pub invariant-loop-console : goal.invariant-loop-console
invariant-loop-console l = Typed l.input l.initial.places l.rest l.written (state_of l.console) l.places

abbrev pub decreases-loop-console : goal.decreases-loop-console
decreases-loop-console l = length l.rest
