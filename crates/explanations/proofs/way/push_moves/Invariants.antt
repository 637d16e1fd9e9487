use Rattle.std.proofs.Common.{◌≡◌, ◌++◌, take, string_bytes}
use Rattle.explanations.specs.Ways.{moves_text}
use Rattle.explanations.proofs.Following.{reached}
use Rattle.explanations.proofs.way.push_moves.Given as goal

abbrev pub invariant-loop-action : goal.invariant-loop-action
invariant-loop-action l = (l.s ≡ reached 0 (take l.action-index l.steps)) × (string_bytes l.out ≡ string_bytes l.initial.out ++ moves_text 0 (take l.action-index l.steps))
