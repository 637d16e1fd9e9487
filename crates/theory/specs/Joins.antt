-- Two procedures side by side: the states of the left one, then those of the right one.
use Rattle.std.specs.Prelude.{◌≡◌, ℕ, ◌+◌, ◌<◌, map}
use Rattle.lts.specs.Meaning.{Meaning}
use Rattle.lts.specs.Joined.{raised}

-- m is p and q side by side: state t of q is state p .count + t of m
pub record Joins (p q m : Meaning) : Type 0 where
  pub counts : m.count ≡ p.count + q.count
  pub left_ends : (s : ℕ) → s < p.count → m.ends s ≡ p.ends s
  pub left_steps : (s : ℕ) → s < p.count → m.steps s ≡ p.steps s
  pub right_ends : (t : ℕ) → t < q.count → m.ends (p.count + t) ≡ q.ends t
  pub right_steps : (t : ℕ) → t < q.count → m.steps (p.count + t) ≡ map (raised p.count) (q.steps t)
