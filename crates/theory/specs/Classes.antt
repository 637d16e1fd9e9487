-- Classes of states, numbered.
use Rattle.std.specs.Prelude.{◌≡◌, ℕ, zero, suc, ◌+◌, ◌<◌, Bool, true, cond, ◌↔◌}
use Rattle.lts.specs.Meaning.{Meaning}
use Rattle.theory.specs.Bisimulation.{Related}
use Rattle.theory.specs.Rounds.{Agree}

-- how many of the numbers below n are in the set
abbrev pub number : (ℕ → Bool) → ℕ → ℕ
number live zero = 0
number live (suc n) = cond (live n) 1 0 + number live n

-- how many states of m are in the set
abbrev pub size : Meaning → (ℕ → Bool) → ℕ
size m live = number live m.count

-- n numbers the states of the set by Same: below K, each number below K occurs, and equal exactly where Same holds
pub record Numbers (live : ℕ → Bool) (Same : ℕ → ℕ → Type 0) (K : ℕ) (n : ℕ → ℕ) : Type 0 where
  pub below : (s : ℕ) → live s ≡ true → n s < K
  pub occurs : (c : ℕ) → c < K → (s : ℕ) × (live s ≡ true) × (n s ≡ c)
  pub equal : (s t : ℕ) → live s ≡ true → live t ≡ true → (n s ≡ n t) ↔ Same s t

-- the classes of round k
abbrev pub Numbering : Meaning → (ℕ → Bool) → ℕ → ℕ → (ℕ → ℕ) → Type 0
Numbering m live k K n = Numbers live (Agree m k) K n

-- the classes themselves: states that some bisimulation relates
abbrev pub Classes : Meaning → (ℕ → Bool) → ℕ → (ℕ → ℕ) → Type 0
Classes m live K n = Numbers live (Related m m) K n
