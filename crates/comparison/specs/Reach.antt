-- The pairs of an action and a class that the steps of a state reach, and the table that holds them.
use Rattle.std.specs.Prelude.{◌≡◌, ℕ, ◌+◌, ◌*◌, ◌/◌, ◌%◌, ◌<◌, ◌≤◌, Bool, true, false, not, ◌&&◌, ◌||◌, List, [], ◌∷◌, length, Some, None, Option, ◌==◌, ◌≢◌, slice_index, refl}
use Rattle.theory.specs.Classes.{number}
use Rattle.comparison.specs.declared.reach.Reach.{Reach}

-- a list of class numbers as a numbering
abbrev pub numbers : List ℕ → ℕ → ℕ
numbers xs s = slice_index xs s

-- some step of the list by action a leads into class c of the numbering n
abbrev pub hits : (ℕ → ℕ) → ℕ → ℕ → List (ℕ × ℕ) → Bool
hits n a c [] = false
hits n a c (x ∷ xs) = (x.0 == a && n x.1 == c) || hits n a c xs

-- how many pairs there are
pub all_pairs : ℕ
all_pairs = 16384

pub all_pairs_are : all_pairs ≡ 16384
unfolding all_pairs
all_pairs_are = refl

-- how many of them the steps reach
abbrev pub weight : (ℕ → ℕ) → List (ℕ × ℕ) → ℕ
weight n xs = number (λ i. hits n (i / 256) (i % 256) xs) all_pairs

-- the cell has the stamp
abbrev pub stamped : Reach → ℕ → Bool
stamped r i = slice_index r.cells i == r.stamp

-- the table holds the pair of action a and class c
abbrev pub holds : Reach → ℕ → ℕ → Bool
holds r a c = stamped r (a * 256 + c)

-- how many pairs the table holds
abbrev pub total : Reach → ℕ
total r = number (stamped r) (length r.cells)

abbrev pub Cleared : Reach → Type 0
Cleared r = (i : ℕ) → stamped r i ≡ false

-- one pair more: the answer says whether it is new
pub record Put (before : Reach) (a c : ℕ) (new : Bool) (after : Reach) : Type 0 where
  pub told : new ≡ not (holds before a c)
  pub there : holds after a c ≡ true
  pub others : (i : ℕ) → (i ≢ a * 256 + c) → stamped after i ≡ stamped before i

-- the table holds just the pairs that the steps reach
abbrev pub Reached : (ℕ → ℕ) → List (ℕ × ℕ) → Reach → Type 0
Reached n xs r = (a c : ℕ) → a ≤ 63 → c < 256 → holds r a c ≡ hits n a c xs

-- a pair that the steps reach and the table lacks; with none, the table holds all that they reach
abbrev pub Missing : (ℕ → ℕ) → List (ℕ × ℕ) → Reach → Option (ℕ × ℕ) → Type 0
Missing n xs r None = (a c : ℕ) → hits n a c xs ≡ true → holds r a c ≡ true
Missing n xs r (Some x) = (x.0 ≤ 63) × (x.1 < 256) × (hits n x.0 x.1 xs ≡ true) × (holds r x.0 x.1 ≡ false)
