-- What one state reaches and another does not.
use Rattle.std.specs.Prelude.{◌≡◌, ℕ, ◌<◌, ◌≤◌, not, Some, None, Option}
use Rattle.lts.specs.Meaning.{Meaning}
use Rattle.comparison.specs.Reach.{hits, weight}
use Rattle.comparison.specs.declared.draft.Weighed.{Weighed}
use Rattle.comparison.specs.declared.split.Split.{Split}

-- the state reaches so many pairs
abbrev pub Weighs : Meaning → (ℕ → ℕ) → Weighed → Type 0
Weighs m n s = s.weight ≡ weight n (m.steps s.state)

-- states s and t reach the same pairs
abbrev pub Alike : Meaning → (ℕ → ℕ) → ℕ → ℕ → Type 0
Alike m n s t = (a c : ℕ) → hits n a c (m.steps s) ≡ hits n a c (m.steps t)

-- s is told from t by the pair of the split, on the side of those that leave
pub record Parts (m : Meaning) (n : ℕ → ℕ) (s t from : ℕ) (x : Split) : Type 0 where
  pub of : x.from ≡ from
  pub action : x.action ≤ 63
  pub into : x.into < 256
  pub gone : hits n x.action x.into (m.steps s) ≡ x.side
  pub stays : hits n x.action x.into (m.steps t) ≡ not x.side

-- a split that parts s from t, or none where they are alike
abbrev pub Contrast : Meaning → (ℕ → ℕ) → Weighed → Weighed → ℕ → Option Split → Type 0
Contrast m n s t from None = Alike m n s.state t.state
Contrast m n s t from (Some x) = Parts m n s.state t.state from x
