-- The steps that a formula asks for first, followed through a procedure.
use Rattle.std.specs.Prelude.{◌≡◌, ℕ, ◌*◌, ◌<◌, ◌≤◌, List, [], ◌∷◌, ◌++◌, length, Some, None, codes, decimal, Option}
use Rattle.std.specs.List.{slice_get, flat_map}
use Rattle.lts.specs.Meaning.{Meaning}
use Rattle.theory.specs.Formulas.{Formula, T, E, N, A, D, Holds}
use Rattle.drawings.specs.Texts.{action_text}
use Rattle.formulas.specs.declared.line.Line.{Line}
use Rattle.formulas.specs.Evaluation.{RowsMarked}
use Rattle.formulas.specs.Lines.{Wellformed}
use Rattle.listings.specs.Offsets.{action_offset}

-- the first of two answers
abbrev pub first_of : {X : Type 0} → Option X → Option X → Option X
first_of None y = y
first_of (Some x) y = Some x

-- the first step that a formula asks for outside of any negation: its action, and what has to hold behind it
abbrev pub lead : Formula → Option (ℕ × Formula)
lead T = None
lead E = None
lead (N f) = None
lead (A f g) = first_of (lead f) (lead g)
lead (D a f) = Some (a, f)

-- t is the target of the first listed step by action a, out of state s, to a state where f holds
pub record First (m : Meaning) (s a : ℕ) (f : Formula) (t : ℕ) : Type 0 where
  pub place : ℕ
  pub listed : slice_get (m.steps s) place ≡ Some (a, t)
  pub holds : Holds m t f
  pub none_before : (k u : ℕ) → k < place → slice_get (m.steps s) k ≡ Some (a, u) → Holds m u f → ⊥

-- the marks of well-formed lines at every state
pub record Marked (m : Meaning) (lines : List Line) (work : List ℕ) : Type 0 where
  pub well : Wellformed lines
  pub room : length lines * m.count ≤ length work
  pub marks : RowsMarked m lines (length lines) work

-- the steps from state s, each with its action and its target: what f asks for first, then what has to hold
-- behind that, until no step is asked for
abbrev pub Way : Meaning → ℕ → Formula → List (ℕ × ℕ) → Type 0
Way m s f [] = lead f ≡ None
Way m s f (step ∷ steps) = (g : Formula) × (lead f ≡ Some (step.0, g)) × First m s step.0 g step.1 × Way m step.1 g steps

-- where the action of a step stands: the target of a step of a term is the place of its action in the text
abbrev pub offset_text : ℕ → Option ℕ → List ℕ
offset_text a None = []
offset_text a (Some at) = action_text a ++ (codes " at offset " ++ (decimal at ++ codes " of the left text\n"))

-- the steps of a term, by the places of their actions in its text
abbrev pub way_text : List ℕ → List (ℕ × ℕ) → List ℕ
way_text text steps = flat_map (λ step. offset_text step.0 (action_offset text step.1)) steps

-- a step out of state s of a table
abbrev pub move_text : ℕ → ℕ × ℕ → List ℕ
move_text s step = action_text step.0 ++ (codes " from state " ++ (decimal s ++ (codes " to state " ++ (decimal step.1 ++ codes "\n"))))

-- the steps of a table from state s on, each out of the state that the one before leads to
abbrev pub moves_text : ℕ → List (ℕ × ℕ) → List ℕ
moves_text s [] = []
moves_text s (step ∷ steps) = move_text s step ++ moves_text step.1 steps
