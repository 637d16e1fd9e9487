use Rattle.std.proofs.Common.{◌≡◌, ℕ, ◌<◌, false, length, get_or}
use Rattle.lts.proofs.copying.bare.Given as goal

abbrev pub invariant-loop-s : goal.invariant-loop-s
invariant-loop-s g l =
    (length l.ends ≡ 128) × ((k : ℕ) → k < l.s → get_or l.ends k false ≡ (g.S.System.meaning l.source).ends k)
