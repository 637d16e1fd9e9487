-- Formulas of Hennessy and Milner, and the states where they hold.
use Rattle.std.specs.Prelude.{◌≡◌, ℕ, suc, max, true, ◌⊎◌}
use Rattle.lts.specs.Meaning.{Meaning, In}

-- true; an end; not; both; some step by the action leads to where the formula holds
pub data Formula : Type 0 where
  T : Formula
  E : Formula
  N : Formula → Formula
  A : Formula → Formula → Formula
  D : ℕ → Formula → Formula

-- f holds at state s of m
abbrev pub Holds : Meaning → ℕ → Formula → Type 0
Holds m s T = Unit {0}
Holds m s E = m.ends s ≡ true
Holds m s (N f) = Holds m s f → ⊥
Holds m s (A f g) = Holds m s f × Holds m s g
Holds m s (D a f) = (t : ℕ) × In (a, t) (m.steps s) × Holds m t f

-- how many steps are nested
abbrev pub depth : Formula → ℕ
depth T = 0
depth E = 0
depth (N f) = depth f
depth (A f g) = max (depth f) (depth g)
depth (D a f) = suc (depth f)

-- f holds at state s of p and fails at state t of q
abbrev pub Tells : Meaning → Meaning → ℕ → ℕ → Formula → Type 0
Tells p q s t f = Holds p s f × (Holds q t f → ⊥)

-- f holds at just one of the two
abbrev pub Separates : Meaning → Meaning → ℕ → ℕ → Formula → Type 0
Separates p q s t f = Tells p q s t f ⊎ Tells q p t s f
