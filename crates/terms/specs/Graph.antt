-- The graph of a term: state 0 is the whole term, state i what remains after the i-th action written.
use Rattle.std.specs.Prelude.{◌≡◌, ℕ, ◌+◌, ◌<◌, Bool, true, false, List, [], ◌∷◌, ◌++◌, map, Some, None, Decides, Option}
use Rattle.std.specs.List.{slice_get}
use Rattle.lts.specs.Meaning.{Meaning, In}
use Rattle.terms.specs.Syntax.{Tree, leaf, choice, sequence, size, Rest, done, left}
use Rattle.terms.specs.Rules.{Process, Derives, plain, plain_rest}

-- what remains of x followed by y, where r remains of x
abbrev pub followed : Tree → Rest Tree → Rest Tree
followed y done = left y
followed y (left x) = left (sequence x y)

-- what remains after each action written, in text order
abbrev pub rests : Tree → List (Rest Tree)
rests (leaf a i) = done ∷ []
rests (choice x y) = rests x ++ rests y
rests (sequence x y) = map (followed y) (rests x) ++ rests y

-- what each state holds
abbrev pub contents : Tree → List (Rest Tree)
contents t = left t ∷ rests t

-- the actions that a term can take first, in text order, each with its place
abbrev pub firsts : Tree → List (ℕ × ℕ)
firsts (leaf a i) = (a, i) ∷ []
firsts (choice x y) = firsts x ++ firsts y
firsts (sequence x y) = firsts x

-- nothing remains
abbrev pub ended : Option (Rest Tree) → Bool
ended None = false
ended (Some done) = true
ended (Some (left x)) = false

abbrev pub leads : Option (Rest Tree) → List (ℕ × ℕ)
leads None = []
leads (Some done) = []
leads (Some (left x)) = firsts x

abbrev pub graph : Tree → Meaning
graph t = record { count = 1 + size t; ends = λ s. ended (slice_get (contents t) s); steps = λ s. leads (slice_get (contents t) s) }

-- each target is above the one before
abbrev pub Rises : ℕ → List (ℕ × ℕ) → Type 0
Rises low [] = Unit {0}
Rises low (step ∷ steps) = (low < step.1) × Rises step.1 steps

-- m is the graph that the rules derive from t: its ends are the states where nothing remains, and its steps
-- exactly those that the rules derive, listed in text order.
pub record ByRules (t : Tree) (m : Meaning) : Type 0 where
  pub count : m.count ≡ 1 + size t
  pub ends : (s : ℕ) → Decides (m.ends s) (slice_get (contents t) s ≡ Some done)
  pub derivable : (s a i : ℕ) → In (a, i) (m.steps s) → (x : Tree) × (r : Rest Tree) × (slice_get (contents t) s ≡ Some (left x)) × (slice_get (contents t) i ≡ Some r) × Derives (plain x) a (plain_rest r)
  pub listed : (s a : ℕ) (x : Tree) (r : Rest Process) → slice_get (contents t) s ≡ Some (left x) → Derives (plain x) a r → (i : ℕ) × (r' : Rest Tree) × In (a, i) (m.steps s) × (slice_get (contents t) i ≡ Some r') × (plain_rest r' ≡ r)
  pub ordered : (s : ℕ) → Rises 0 (m.steps s)
