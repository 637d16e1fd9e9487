use Rattle.std.proofs.Common.{◌≡◌}
use Rattle.lts.specs.Copying.{before}
use Rattle.lts.proofs.copying.step_total.Given as goal

abbrev pub invariant-loop-s : goal.invariant-loop-s
invariant-loop-s g l = l.all ≡ before (g.S.System.meaning l.source) l.s
