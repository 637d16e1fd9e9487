use Rattle.comparison.specs.Layouts.{LaidOut}
use Rattle.comparison.proofs.layout.Layout.lay_all.Given as goal

abbrev pub invariant-loop-s : goal.invariant-loop-s
invariant-loop-s g l = LaidOut (g.S.System.meaning l.system) l.s l.self
