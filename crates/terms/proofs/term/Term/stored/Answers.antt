use Rattle.terms.proofs.Asking.{term_readable}
use Rattle.terms.proofs.term.Term.stored.Goals as goal

pub invariant_of-result : goal.invariant_of-result
invariant_of-result c = record { readable = term_readable c.args.self.now }
