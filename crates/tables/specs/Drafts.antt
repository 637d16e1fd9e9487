-- What a draft holds of the records read so far.
use Rattle.std.specs.Prelude.{◌≡◌, ℕ, ◌+◌, ◌<◌, ◌≤◌, false, ◌&&◌, List, [], ◌∷◌, ◌++◌, length, take, Some, None, Ok, Err, Result, nat_lt, slice_index_or}
use Rattle.lts.specs.Copying.{before}
use Rattle.lts.specs.Layout.{Procedure, from, many, step_at, stored, Sound}
use Rattle.lts.specs.Meaning.{Meaning}
use Rattle.lts.specs.declared.laid.Run.{Run}
use Rattle.tables.specs.Drawing.{byte, ended, steps_of, out_of}
use Rattle.tables.specs.Records.{Rec}
use Rattle.tables.specs.Rows.{fault}
use Rattle.tables.specs.declared.draft.Draft.{Draft}
use Rattle.tables.specs.declared.fault.TableFault.{TableFault}
use Rattle.tables.specs.declared.step.Step.{Step}

-- the steps of a draft, in file order
abbrev pub drawn : Draft → List Step
drawn d = take d.used d.steps

-- what a draft means
abbrev pub drafted : Draft → Meaning
drafted d = record { count = d.states; ends = λ s. nat_lt s d.states && slice_index_or d.ends s false; steps = λ s. out_of s (drawn d) }

-- a draft of the records rs behind the head h
pub record Draws (h : Rec) (rs : List Rec) (d : Draft) : Type 0 where
  pub states : d.states ≡ byte h.body 0
  pub ends : (s : ℕ) → s < d.states → slice_index_or d.ends s false ≡ ended s (h ∷ rs)
  pub no_ends : (s : ℕ) → d.states ≤ s → ended s (h ∷ rs) ≡ false
  pub steps : drawn d ≡ steps_of (h ∷ rs)

-- a draft of n states, with no ends and no steps
pub record Blank (n : ℕ) (d : Draft) : Type 0 where
  pub states : d.states ≡ n
  pub ends : (s : ℕ) → s < 128 → slice_index_or d.ends s false ≡ false
  pub used : d.used ≡ 0

-- the draft that a first record begins
abbrev pub Begun : Rec → Result Draft TableFault → Type 0
Begun h (Ok d) = (fault [] h ≡ None) × Draws h [] d
Begun h (Err f) = fault [] h ≡ Some f

-- one record more was taken in, or refused
abbrev pub Taken : Rec → Result (Unit {0}) TableFault → Draft → Draft → Type 0
Taken x (Ok done) d d' = (h : Rec) (rs : List Rec) → Draws h rs d → (fault (h ∷ rs) x ≡ None) × Draws h (rs ++ x ∷ []) d'
Taken x (Err f) d d' = (h : Rec) (rs : List Rec) → Draws h rs d → fault (h ∷ rs) x ≡ Some f

-- for each state, where its steps end when those of the states below stand before them, and how many they are
pub record Bounded (m : Meaning) (runs : List Run) : Type 0 where
  pub size : length runs ≡ 128
  pub ends : (s : ℕ) → s < 128 → (slice_index_or runs s (record { from = 0; count = 0 })).from ≡ before m (s + 1)
  pub counts : (s : ℕ) → s < 128 → (slice_index_or runs s (record { from = 0; count = 0 })).count ≡ length (m.steps s)

-- how many of the first k steps lead out of state s
abbrev pub left : Draft → ℕ → ℕ → ℕ
left d k s = length (out_of s (take k (drawn d)))

-- p holds the states and ends of d, and its steps but for the first k, which are left
pub record Placed (d : Draft) (k : ℕ) (p : Procedure) : Type 0 where
  pub places : length p.steps ≡ 512
  pub states : p.states ≡ d.states
  pub ends : (s : ℕ) → s < d.states → slice_index_or p.ends s false ≡ (drafted d).ends s
  pub runs_size : length p.runs ≡ 128
  pub froms : (s : ℕ) → s < 128 → from p s ≡ before (drafted d) s + left d k s
  pub counts : (s : ℕ) → s < 128 → many p s ≡ length ((drafted d).steps s)
  pub full : (s i : ℕ) → s < d.states → left d k s ≤ i → i < length ((drafted d).steps s) → step_at p (before (drafted d) s + i) ≡ slice_index_or ((drafted d).steps s) i (0, 0)

-- the steps grouped by state
abbrev pub Grouped : Draft → Procedure → Type 0
Grouped d p = Sound p × (stored p ≡ drafted d)
