-- How records lie in a file: one after another, with nothing between them.
use Rattle.std.specs.Prelude.{◌≡◌, ℕ, ◌+◌, ◌*◌, List, [], ◌∷◌, ◌++◌, length}
use Rattle.tables.specs.Kinds.{sort}
use Rattle.tables.specs.Records.{Rec}

-- these bytes, from an offset on, are these records: each its length, its kind and its body
pub data Laid : ℕ → List Rec → List ℕ → Type 0 where
  finish : {at : ℕ} → Laid at [] []
  follow : {at l h k m : ℕ} {body rest : List ℕ} {rs : List Rec} → length body ≡ l + h * 256 → Laid (at + 4 + length body) rs rest → Laid at (record { place = at; kind = sort (k + m * 256); body = body } ∷ rs) (l ∷ h ∷ k ∷ m ∷ (body ++ rest))
