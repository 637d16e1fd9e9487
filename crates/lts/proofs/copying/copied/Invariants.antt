use Rattle.std.proofs.Common.{◌≡◌}
use Rattle.lts.specs.Copying.{before}
use Rattle.lts.specs.Filling.{Filled}
use Rattle.lts.proofs.copying.copied.Given as goal

abbrev pub invariant-loop-s : goal.invariant-loop-s
invariant-loop-s g l =
    let m = g.S.System.meaning l.source in
    (l.used ≡ before m l.s) × Filled m l.s 0 l.copy
