-- The steps to states that a row of marks has.
use Rattle.std.specs.Prelude.{◌≡◌, ℕ, ◌<◌, ◌≢◌, List, Some, None, Option, slice_index}
use Rattle.std.specs.List.{slice_get}

-- the target of the first step by the action to a state that the row marks
abbrev pub FirstMarked : List (ℕ × ℕ) → ℕ → List ℕ → Option ℕ → Type 0
FirstMarked steps a row None = (k u : ℕ) → slice_get steps k ≡ Some (a, u) → slice_index row u ≢ 1
FirstMarked steps a row (Some t) = (place : ℕ) × (slice_get steps place ≡ Some (a, t)) × (slice_index row t ≡ 1) × ((k u : ℕ) → k < place → slice_get steps k ≡ Some (a, u) → slice_index row u ≢ 1)
