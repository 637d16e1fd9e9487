-- What a procedure means: a finite labelled transition system.
use Rattle.std.specs.Prelude.{◌≡◌, ℕ, ◌<◌, ◌≤◌, Bool, false, ◌⊎◌, List, [], ◌∷◌, length}

-- x stands in the list
abbrev pub In : {X : Type 0} → X → List X → Type 0
In x [] = ⊥
In x (y ∷ ys) = (x ≡ y) ⊎ In x ys

-- States are numbered from 0, the start is 0. A step out of a state is its action and its target.
-- Order and repetition in a list of steps belong to the meaning.
pub record Meaning : Type 0 where
  pub count : ℕ
  pub ends : ℕ → Bool
  pub steps : ℕ → List (ℕ × ℕ)

-- What every source keeps: `most` is the largest number of states of its kind.
pub record Lawful (most : ℕ) (m : Meaning) : Type 0 where
  pub some : 1 ≤ m.count
  pub few : m.count ≤ most
  pub no_ends : (s : ℕ) → m.count ≤ s → m.ends s ≡ false
  pub no_steps : (s : ℕ) → m.count ≤ s → m.steps s ≡ []
  pub short : (s : ℕ) → length (m.steps s) ≤ 4096
  pub acts : (s a t : ℕ) → In (a, t) (m.steps s) → a ≤ 63
  pub aims : (s a t : ℕ) → In (a, t) (m.steps s) → t < m.count
