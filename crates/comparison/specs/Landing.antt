-- Where the splits of a round send the states.
use Rattle.std.specs.Prelude.{◌≡◌, ℕ, zero, suc, ◌+◌, ◌<◌, ◌≤◌, Bool, false, cond, ◌&&◌, List, ◌==◌, slice_index_or}
use Rattle.std.specs.Bool.{beq}
use Rattle.lts.specs.Meaning.{Meaning}
use Rattle.theory.specs.Rounds.{Agree}
use Rattle.comparison.specs.declared.split.Split.{Split}

-- no split
abbrev pub unsplit : Split
unsplit = record { from = 0; action = 0; into = 0; side = false }

-- a state of class d that reaches the pairs of `has` leaves its class by the split
abbrev pub leaves : (ℕ → ℕ → Bool) → Split → ℕ → Bool
leaves has x d = x.from == d && beq (has x.action x.into) x.side

-- the class that it is in after the first j splits; split j makes class first + j
abbrev pub sent : (ℕ → ℕ → Bool) → List Split → ℕ → ℕ → ℕ → ℕ
sent has splits first d zero = d
sent has splits first d (suc j) = cond (leaves has (slice_index_or splits j unsplit) (sent has splits first d j)) (first + j) (sent has splits first d j)

-- each split is by a pair that the table has a cell for
pub record DrawnAt (x : Split) : Type 0 where
  pub action : x.action ≤ 63
  pub into : x.into < 256

abbrev pub Drawn : List Split → ℕ → Type 0
Drawn splits made = (j : ℕ) → j < made → DrawnAt (slice_index_or splits j unsplit)

-- `land` gives each state of m one of L classes, each with a state in it: finer than the numbering n of round k,
-- and no finer than round k + 1
pub record Landing (m : Meaning) (k : ℕ) (n : ℕ → ℕ) (L : ℕ) (land : ℕ → ℕ) : Type 0 where
  pub below : (t : ℕ) → t < m.count → land t < L
  pub occurs : (c : ℕ) → c < L → (t : ℕ) × (t < m.count) × (land t ≡ c)
  pub keeps : (t u : ℕ) → t < m.count → u < m.count → Agree m (suc k) t u → land t ≡ land u
  pub refines : (t u : ℕ) → t < m.count → u < m.count → land t ≡ land u → n t ≡ n u

-- the states of class d that pass the test move to class e
abbrev pub moved : (ℕ → ℕ) → (ℕ → Bool) → ℕ → ℕ → ℕ → ℕ
moved land test d e t = cond (d == land t && test t) e (land t)
