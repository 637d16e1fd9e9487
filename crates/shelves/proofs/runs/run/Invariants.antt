use Rattle.shelves.specs.Moves.{account_of}
use Rattle.shelves.specs.Runs.{call_of}
use Rattle.shelves.proofs.Running.{Through}
use Rattle.shelves.proofs.runs.run.Given as goal

abbrev pub invariant-loop-k : goal.invariant-loop-k
invariant-loop-k g l = Through (call_of g.S.System.meaning) l.number l.calls l.initial.answers l.k l.answers (account_of l.shelf)
