use Rattle.terms.proofs.Progress.{Progress}
use Rattle.terms.proofs.term.Term.read.Given as goal

abbrev pub invariant-loop-offset : goal.invariant-loop-offset
invariant-loop-offset l = Progress l.text l.offset l.reader
