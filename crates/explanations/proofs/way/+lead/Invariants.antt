use Rattle.explanations.proofs.way.+lead.Given as goal

abbrev pub decreases-lead : goal.decreases-lead
decreases-lead l = l.formula.line
