-- Rounds: how far two states can be followed step by step and still look alike.
use Rattle.std.specs.Prelude.{◌≡◌, ℕ, zero, suc, ◌<◌, Bool, true, false, ◌&&◌, ◌||◌, ◌↔◌, List, [], ◌∷◌, ◌==◌, nat_lt}
use Rattle.std.specs.Bool.{beq}
use Rattle.lts.specs.Meaning.{Meaning, In}
use Rattle.theory.specs.Bisimulation.{Answered}

-- Agree at round 0: both are ends or neither is. At the next round: agree at this one, and each step of either
-- has a step of the other with the same action, to states that agree at this one.
abbrev pub Agree : Meaning → ℕ → ℕ → ℕ → Type 0
Agree m zero s t = m.ends s ≡ m.ends t
Agree m (suc k) s t = Agree m k s t × Answered (m.steps s) (m.steps t) (Agree m k) × Answered (m.steps t) (m.steps s) (Agree m k)

-- some step of ys has the action of x, and the test passes where the two lead
abbrev pub meets : (ℕ → ℕ → Bool) → ℕ × ℕ → List (ℕ × ℕ) → Bool
meets R x [] = false
meets R x (y ∷ ys) = (x.0 == y.0 && R x.1 y.1) || meets R x ys

-- each step of xs is met by ys
abbrev pub answered : (ℕ → ℕ → Bool) → List (ℕ × ℕ) → List (ℕ × ℕ) → Bool
answered R [] ys = true
answered R (x ∷ xs) ys = meets R x ys && answered R xs ys

-- the rounds as a computed test
abbrev pub agree : Meaning → ℕ → ℕ → ℕ → Bool
agree m zero s t = beq (m.ends s) (m.ends t)
agree m (suc k) s t =
    agree m k s t && (answered (agree m k) (m.steps s) (m.steps t) && answered (agree m k) (m.steps t) (m.steps s))

-- a set of states of m that no step leaves
pub record Closed (m : Meaning) (live : ℕ → Bool) : Type 0 where
  pub inside : (s : ℕ) → live s ≡ true → s < m.count
  pub stays : (s a t : ℕ) → live s ≡ true → In (a, t) (m.steps s) → live t ≡ true

-- all states of m
abbrev pub all_of : Meaning → ℕ → Bool
all_of m s = nat_lt s m.count

-- rounds k and k + 1 agree on the same pairs of the set
abbrev pub Stable : Meaning → (ℕ → Bool) → ℕ → Type 0
Stable m live k = (s t : ℕ) → live s ≡ true → live t ≡ true → Agree m k s t ↔ Agree m (suc k) s t

-- r is the least stable round of the set
pub record Rounds (m : Meaning) (live : ℕ → Bool) (r : ℕ) : Type 0 where
  pub stable : Stable m live r
  pub least : (k : ℕ) → k < r → Stable m live k → ⊥
