use Rattle.comparison.specs.Ended.{Ended}
use Rattle.comparison.proofs.ends.end_classes.Given as goal

abbrev pub invariant-loop-s : goal.invariant-loop-s
invariant-loop-s g l = Ended (g.S.System.meaning l.system) l.s l.class l.count
