-- How many steps are listed before a state.
use Rattle.std.proofs.Common.{◌≡◌, ℕ, zero, suc, ◌+◌, ◌-◌, ◌*◌, ◌<◌, ◌≤◌, length, ⊎_elim, add-zero, add-one, arith}
use Rattle.std.proofs.lemmas.Bool.{cases_lt}
use Rattle.lts.specs.Meaning.{Meaning}
use Rattle.lts.specs.Copying.{before, total}
use Rattle.lts.specs.Laws.Counting.{before_more}

-- the state below s that place k belongs to
abbrev pub Place : Meaning → ℕ → ℕ → Type 0
Place m s k = (t i : ℕ) × (t < s) × (i < length (m.steps t)) × (k ≡ before m t + i)

module _ (m : Meaning) where
  pub before_far : (s d : ℕ) → before m s ≤ before m (s + d)
  before_far s zero = rw add-zero (omega arith)
  before_far s (suc d) =
      let e : s + suc d ≡ s + d + 1 = omega arith in
      let h = before_far s d in
      let l = before_more m (s + d) in
      rw e (omega arith)

  pub before_rises : (s t : ℕ) → s ≤ t → before m s ≤ before m t
  before_rises s t h =
      let e : s + (t - s) ≡ t = omega arith in
      let l = before_far s (t - s) in
      rw e at l

  -- with at most 4,096 steps out of a state
  pub before_few : ((s : ℕ) → length (m.steps s) ≤ 4096) → (s : ℕ) → before m s ≤ 4096 * s
  before_few short zero = omega arith
  before_few short (suc s) =
      let h = before_few short s in
      let l = before_more m s in
      let k = short s in
      let e : before m (s + 1) ≤ 4096 * (s + 1) = omega arith in
      rw add-one at e

  -- the steps of a state end before those of the whole do
  pub state_room : (s : ℕ) → s < m.count → before m s + length (m.steps s) ≤ total m
  state_room s h =
      let l = before_rises (s + 1) m.count (omega arith) in
      let e = before_more m s in
      omega arith

  pub place_state : (s k : ℕ) → k < before m s → Place m s k
  place_state zero k h = let b : ⊥ = omega arith in absurd b
  place_state (suc s) k h = ⊎_elim (λ l. earlier (place_state s k l)) here (cases_lt k (before m s))
    where
      earlier : Place m s k → Place m (suc s) k
      earlier r = (r.0, r.1, omega arith, r.3, r.4)

      here : before m s ≤ k → Place m (suc s) k
      here l =
          let e = before_more m s in
          let h' : k < before m (s + 1) = rw add-one h in
          (s, k - before m s, omega arith, omega arith, omega arith)
