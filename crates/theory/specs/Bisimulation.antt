-- Bisimulations between two procedures, and the states that they relate.
use Rattle.std.specs.Prelude.{◌≡◌, ℕ, ◌<◌, Bool, true, List}
use Rattle.lts.specs.Meaning.{Meaning, In}

-- each step of xs has a step of ys with the same action, and R relates the states that the two lead to
abbrev pub Answered : List (ℕ × ℕ) → List (ℕ × ℕ) → (ℕ → ℕ → Type 0) → Type 0
Answered xs ys R = (a s : ℕ) → In (a, s) xs → (t : ℕ) × In (a, t) ys × R s t

-- a relation read from right to left
abbrev pub turned : (ℕ → ℕ → Type 0) → ℕ → ℕ → Type 0
turned R t s = R s t

-- R, of any kind, relates only states alike in their end marks, and each step of either is answered by a step of the other
pub record BisimulationOf (p q : Meaning) (R : ℕ → ℕ → Type 0) : Type 0 where
  pub alike : (s t : ℕ) → R s t → p.ends s ≡ q.ends t
  pub forth : (s t : ℕ) → R s t → Answered (p.steps s) (q.steps t) R
  pub back : (s t : ℕ) → R s t → Answered (q.steps t) (p.steps s) (turned R)

-- the pairs that pass a test
abbrev pub Passing : (ℕ → ℕ → Bool) → ℕ → ℕ → Type 0
Passing R s t = R s t ≡ true

-- a bisimulation that is given by a test
abbrev pub Bisimulation : Meaning → Meaning → (ℕ → ℕ → Bool) → Type 0
Bisimulation p q R = BisimulationOf p q (Passing R)

-- some bisimulation relates state s of p and state t of q
abbrev pub Related : Meaning → Meaning → ℕ → ℕ → Type 0
Related p q s t = (R : ℕ → ℕ → Bool) × Bisimulation p q R × (R s t ≡ true)

-- every step out of a state leads to a state
abbrev pub Inside : Meaning → Type 0
Inside m = (s a t : ℕ) → s < m.count → In (a, t) (m.steps s) → t < m.count
