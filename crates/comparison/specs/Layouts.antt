-- Two procedures laid out flat, each step once.
use Rattle.std.specs.Prelude.{◌≡◌, ℕ, ◌+◌, ◌-◌, ◌<◌, ◌≤◌, false, List, length, take, slice_index_or, slice_set}
use Rattle.lts.specs.Layout.{from, many, run}
use Rattle.lts.specs.Meaning.{Meaning, In}
use Rattle.comparison.specs.Reach.{Reached}
use Rattle.comparison.specs.declared.layout.Layout.{Layout}
use Rattle.comparison.specs.declared.reach.Reach.{Reach}

-- the steps of one list are those of the other, in any order and however often
pub record SameListed (xs ys : List (ℕ × ℕ)) : Type 0 where
  pub to : (a t : ℕ) → In (a, t) xs → In (a, t) ys
  pub back : (a t : ℕ) → In (a, t) ys → In (a, t) xs

-- two procedures with the same states, ends and steps, in any order and however often they are listed
pub record SameSteps (m n : Meaning) : Type 0 where
  pub counts : m.count ≡ n.count
  pub ends : (s : ℕ) → m.ends s ≡ n.ends s
  pub steps : (s : ℕ) → SameListed (m.steps s) (n.steps s)

-- p holds the states of m, and the ends and steps of those below s
pub record LaidOut (m : Meaning) (s : ℕ) (p : Layout) : Type 0 where
  pub ends_size : length p.laid.ends ≡ 256
  pub runs_size : length p.laid.runs ≡ 256
  pub steps_size : length p.laid.steps ≡ 2048
  pub states : p.laid.states ≡ m.count
  pub room : p.used ≤ 2048
  pub inside : (t : ℕ) → t < s → from p.laid t + many p.laid t ≤ p.used
  pub ends : (t : ℕ) → t < s → slice_index_or p.laid.ends t false ≡ m.ends t
  pub steps : (t : ℕ) → t < s → SameListed (m.steps t) (run p.laid (from p.laid t) (many p.laid t))

-- and from place i on the first k steps of s, which are those that were seen
pub record Laying (m : Meaning) (s i k : ℕ) (table : Reach) (p : Layout) : Type 0 where
  pub below : LaidOut m s p
  pub begun : i ≤ p.used
  pub seen : Reached (λ u. u) (take k (m.steps s)) table
  pub steps : SameListed (take k (m.steps s)) (run p.laid i (p.used - i))

-- one step more
abbrev pub pushed : Layout → ℕ × ℕ → Layout
pushed p x =
    record { laid = record { states = p.laid.states; ends = p.laid.ends; runs = p.laid.runs; steps = slice_set p.laid.steps p.used x }; used = p.used + 1 }
