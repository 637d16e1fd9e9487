-- How far a copy has come.
use Rattle.std.specs.Prelude.{◌≡◌, ℕ, ◌+◌, ◌<◌, false, length, slice_index_or}
use Rattle.lts.specs.Meaning.{Meaning}
use Rattle.lts.specs.Layout.{Procedure, from, many, step_at}
use Rattle.lts.specs.Copying.{before}

-- p holds the states and ends of m, the steps of its states below s, and the first j steps of s
pub record Filled (m : Meaning) (s j : ℕ) (p : Procedure) : Type 0 where
  pub runs_size : length p.runs ≡ 128
  pub places : length p.steps ≡ 512
  pub states : p.states ≡ m.count
  pub ends : (k : ℕ) → k < m.count → slice_index_or p.ends k false ≡ m.ends k
  pub froms : (k : ℕ) → k < s → from p k ≡ before m k
  pub counts : (k : ℕ) → k < s → many p k ≡ length (m.steps k)
  pub full : (k i : ℕ) → k < s → i < length (m.steps k) → step_at p (before m k + i) ≡ slice_index_or (m.steps k) i (0, 0)
  pub begun : (i : ℕ) → i < j → step_at p (before m s + i) ≡ slice_index_or (m.steps s) i (0, 0)
