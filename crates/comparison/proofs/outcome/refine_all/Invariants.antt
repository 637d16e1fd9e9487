use Rattle.std.proofs.Common.{◌<◌}
use Rattle.comparison.specs.Marks.{written}
use Rattle.comparison.specs.Found.{Found}
use Rattle.comparison.specs.Links.{Linked}
use Rattle.comparison.specs.Outcomes.{Unstable}
use Rattle.comparison.specs.Standing.{Standing}
use Rattle.comparison.proofs.outcome.refine_all.Given as goal

abbrev pub invariant-loop-k : goal.invariant-loop-k
invariant-loop-k g l =
    record { linked : Linked l.draft.links; standing : Standing (g.S.System.meaning l.system) l.k (written l.script) l.classes; found : Found (g.S.System.meaning l.system) l.right (written l.script) l.k l.starts; unstable : Unstable (g.S.System.meaning l.system) l.k; low : l.k < l.classes.count }
