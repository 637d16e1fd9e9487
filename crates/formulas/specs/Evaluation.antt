-- What an evaluation writes and answers.
use Rattle.std.specs.Prelude.{◌≡◌, ℕ, ◌+◌, ◌*◌, ◌<◌, ◌≤◌, Bool, ◌⊎◌, List, length, drop, Some, None, Ok, Err, Decides, Result, slice_index}
use Rattle.lts.specs.Meaning.{Meaning, In}
use Rattle.theory.specs.Formulas.{Holds}
use Rattle.formulas.specs.declared.line.Line.{Line}
use Rattle.formulas.specs.declared.fault.EvaluationFault.{EvaluationFault}
use Rattle.formulas.specs.Lines.{Wellformed, formula}
use Rattle.formulas.specs.Faults.{first_fault}

-- x is 1 where P holds, and 0 where it does not
abbrev pub Marks : ℕ → Type 0 → Type 0
Marks x P = ((x ≡ 1) × P) ⊎ ((x ≡ 0) × (P → ⊥))

-- some of the steps, by the action, leads to a place of the row that is marked
abbrev pub Enters : List (ℕ × ℕ) → ℕ → List ℕ → Type 0
Enters steps action row = (t : ℕ) × In (action, t) steps × (slice_index row t ≡ 1)

-- line i at the states below s: place i × n + t marks whether line i holds at state t of m, which has n states
abbrev pub RowMarked : Meaning → List Line → ℕ → ℕ → List ℕ → Type 0
RowMarked m lines i s work = (t : ℕ) → t < s → Marks (slice_index work (i * m.count + t)) (Holds m t (formula lines i))

-- the lines below k at all states
abbrev pub RowsMarked : Meaning → List Line → ℕ → List ℕ → Type 0
RowsMarked m lines k work = (i : ℕ) → i < k → RowMarked m lines i m.count work

-- line k of well-formed lines can be marked: those before it are, and the buffer has room for all
pub record Ready (m : Meaning) (lines : List Line) (k : ℕ) (work : List ℕ) : Type 0 where
  pub wellformed : Wellformed lines
  pub few : length lines ≤ 1024
  pub inside : k < length lines
  pub room : length lines * m.count ≤ length work
  pub marked : RowsMarked m lines k work

-- A refusal is that of the first row, and keeps the buffer. Otherwise no row refuses, every line is marked at
-- every state, the places behind are kept, and the answer is whether line i holds at state s.
abbrev pub Evaluated : Meaning → List Line → ℕ → ℕ → List ℕ → Result Bool EvaluationFault → List ℕ → Type 0
Evaluated m lines i s work (Err fault) work' =
    (first_fault lines i s m.count (length work) ≡ Some fault) × (work' ≡ work)
Evaluated m lines i s work (Ok r) work' =
    (first_fault lines i s m.count (length work) ≡ None) × Wellformed lines × RowsMarked m lines (length lines) work' × (drop (length lines * m.count) work' ≡ drop (length lines * m.count) work) × Decides r (Holds m s (formula lines i))
