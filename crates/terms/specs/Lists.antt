-- What the walks over the table of nodes list: the steps of a term's states, in runs.
use Rattle.std.specs.Prelude.{◌≡◌, ℕ, ◌+◌, ◌<◌, ◌≤◌, List, [], ◌∷◌, length, Some, false, slice_index_or}
use Rattle.std.specs.List.{slice_get}
use Rattle.lts.specs.Layout.{run_at, from, many, step_at, run, listed}
use Rattle.lts.specs.declared.laid.Laid.{Laid}
use Rattle.lts.specs.declared.laid.Run.{Run}
use Rattle.terms.specs.Syntax.{Tree, size, Rest, done, left}
use Rattle.terms.specs.Graph.{firsts, rests, contents, ended, leads}
use Rattle.terms.specs.declared.listing.Listing.{Listing}

-- a run of what is listed holds these steps
pub record Shows (l : Listing) (r : Run) (xs : List (ℕ × ℕ)) : Type 0 where
  pub inside : r.from + r.count ≤ l.listed
  pub steps : run l.laid r.from r.count ≡ xs

-- what was listed stays, and so do the runs given
pub record Keeps (l l' : Listing) : Type 0 where
  pub more : l.listed ≤ l'.listed
  pub steps : (k : ℕ) → k < l.listed → step_at l'.laid k ≡ step_at l.laid k
  pub runs : (s : ℕ) → s < l.laid.states → run_at l'.laid s ≡ run_at l.laid s

-- steps were listed behind those that were there
pub record Listed (l : Listing) (xs : List (ℕ × ℕ)) (l' : Listing) : Type 0 where
  pub keeps : Keeps l l'
  pub added : l'.listed ≡ l.listed + length xs
  pub steps : run l'.laid l.listed (length xs) ≡ xs
  pub states : l'.laid.states ≡ l.laid.states

-- one step was listed
abbrev pub Pushed : Listing → ℕ → ℕ → Listing → Type 0
Pushed l a i l' = Listed l ((a, i) ∷ []) l'

-- one state more was given a run
pub record Given (l : Listing) (r : Run) (l' : Listing) : Type 0 where
  pub keeps : Keeps l l'
  pub listed : l'.listed ≡ l.listed
  pub steps : l'.laid.steps ≡ l.laid.steps
  pub states : l'.laid.states ≡ l.laid.states + 1
  pub given : run_at l'.laid l.laid.states ≡ r

-- what can come first of what remains, where `then` can come first of what follows it
abbrev pub after : List (ℕ × ℕ) → Rest Tree → List (ℕ × ℕ)
after then done = then
after then (left x) = firsts x

-- There is room for the states behind the actions of t and for their steps. Those that `then` shows are listed.
pub record Fits (l : Listing) (then : Run) (t : Tree) : Type 0 where
  pub inside : then.from + then.count ≤ l.listed
  pub steps : l.listed + size t ≤ 63 + length (firsts t)
  pub states : l.laid.states + size t ≤ 64

-- The state behind each action of t was given a run of what can come first there.
pub record Follows (l : Listing) (t : Tree) (then : Run) (l' : Listing) : Type 0 where
  pub keeps : Keeps l l'
  pub written : l'.listed + length (firsts t) ≡ l.listed + size t
  pub states : l'.laid.states ≡ l.laid.states + size t
  pub each : (k : ℕ) (r : Rest Tree) → slice_get (rests t) k ≡ Some r → Shows l' (run_at l'.laid (l.laid.states + k)) (after (run l.laid then.from then.count) r)

-- each state of t has a run of its steps
pub record Lays (t : Tree) (l : Listing) : Type 0 where
  pub written : l.listed ≡ size t
  pub states : l.laid.states ≡ 1 + size t
  pub each : (s : ℕ) → s ≤ size t → Shows l (run_at l.laid s) (leads (slice_get (contents t) s))

-- p holds the states of t, with their ends and steps
pub record Drawn (t : Tree) (p : Laid 64 63) : Type 0 where
  pub states : p.states ≡ 1 + size t
  pub inside : (s : ℕ) → s < p.states → from p s + many p s ≤ 63
  pub ends : (s : ℕ) → s < p.states → slice_index_or p.ends s false ≡ ended (slice_get (contents t) s)
  pub steps : (s : ℕ) → s < p.states → listed p s ≡ leads (slice_get (contents t) s)
