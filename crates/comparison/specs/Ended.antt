-- States alike in their end marks.
use Rattle.std.specs.Prelude.{◌≡◌, ℕ, ◌<◌, cond, ◌⊎◌, List, length}
use Rattle.std.specs.Bool.{beq}
use Rattle.lts.specs.Meaning.{Meaning}
use Rattle.comparison.specs.Reach.{numbers}

-- 0 for a state that is like the start, 1 for any other
abbrev pub apart : Meaning → ℕ → ℕ
apart m t = cond (beq (m.ends t) (m.ends 0)) 0 1

-- the states below s are in their classes, K of them
pub record Ended (m : Meaning) (s : ℕ) (class : List ℕ) (K : ℕ) : Type 0 where
  pub size : length class ≡ 256
  pub each : (t : ℕ) → t < s → numbers class t ≡ apart m t
  pub counted : ((K ≡ 1) × ((t : ℕ) → t < s → apart m t ≡ 0)) ⊎ ((K ≡ 2) × ((t : ℕ) × (t < s) × (apart m t ≡ 1)))
