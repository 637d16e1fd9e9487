use Rattle.comparison.specs.Marks.{written, Kept}
use Rattle.comparison.specs.Standing.{Working}
use Rattle.comparison.proofs.round.Round.refined.Given as goal

abbrev pub invariant-loop-s : goal.invariant-loop-s
invariant-loop-s g l =
    record { working : Working (g.S.System.meaning l.self.system.now) l.self.k l.s l.self.before.now (written l.script) l.draft; kept : Kept (written l.initial.script) (written l.script) }
