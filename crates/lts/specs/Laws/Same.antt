-- When two meanings are one.
use Rattle.std.specs.Prelude.{◌≡◌, ℕ}
use Rattle.lts.specs.Meaning.{Meaning}

pub same_meaning : (m n : Meaning) → m.count ≡ n.count → ((s : ℕ) → m.ends s ≡ n.ends s) → ((s : ℕ) → m.steps s ≡ n.steps s) → m ≡ n
same_meaning m n p q r = λ i. record { count = p i; ends = λ s. q s i; steps = λ s. r s i }
