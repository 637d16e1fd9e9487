use Rattle.explanations.proofs.readable.+push_formula.Given as goal

abbrev pub decreases-push_formula : goal.decreases-push_formula
decreases-push_formula l = l.formula.line
