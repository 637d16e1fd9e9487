-- How many steps are listed out of the states below one.
use Rattle.std.specs.Prelude.{◌≡◌, ℕ, ◌+◌, length}
use Rattle.std.proofs.Common.{arith}
use Rattle.std.proofs.lemmas.List.FromFn.{sum_by-map-range_with_len_more}
use Rattle.std.proofs.lemmas.List.{map-id}
use Rattle.lts.specs.Meaning.{Meaning}
use Rattle.lts.specs.Copying.{before}

module _ (m : Meaning) where
  pub before_more : (s : ℕ) → before m (s + 1) ≡ before m s + length (m.steps s)
  before_more s =
      let e = sum_by-map-range_with_len_more (λ (k : ℕ). length (m.steps k)) (λ (k : ℕ). k) 0 s s (omega arith) in
      simp map-id at e
