-- What a comparison of two procedures answers, and what it leaves in the caller's buffers.
use Rattle.std.specs.Prelude.{◌≡◌, ℕ, ◌+◌, ◌-◌, ◌*◌, ◌<◌, ◌≤◌, ◌⊎◌, List, length, take, drop, Ok, Err, Result, slice_index}
use Rattle.lts.specs.Meaning.{Meaning}
use Rattle.lts.specs.Joined.{joined}
use Rattle.theory.specs.Bisimulation.{Related}
use Rattle.theory.specs.Rounds.{Agree, all_of, Rounds}
use Rattle.theory.specs.Classes.{Classes}
use Rattle.theory.specs.Formulas.{Formula, depth, Tells, Separates}
use Rattle.formulas.specs.Lines.{Wellformed, formula}
use Rattle.formulas.specs.declared.line.Line.{Line}
use Rattle.comparison.specs.declared.fault.CompareFault.{CompareFault}
use Rattle.comparison.specs.declared.fault.CompareFault.TheVariants.{Room}
use Rattle.comparison.specs.declared.report.Report.{Report}
use Rattle.comparison.specs.declared.report.Verdict.{Verdict}
use Rattle.comparison.specs.declared.report.Verdict.TheVariants.{Same, Different}

-- n states want 4 n - 3 places for lines and n for class numbers: there are too few
abbrev pub Short : ℕ → List Line → List ℕ → Type 0
Short n lines classes = (length lines < 4 * n - 3) ⊎ (length classes < n)

-- the starts differ: of the n lines that are written, line i holds at the left start and fails at the right one.
-- It nests d steps, d is the first round at which the starts disagree, and no formula with fewer separates them.
pub record Distinguished (p q : Meaning) (K : ℕ) (lines : List Line) (n i d : ℕ) (lines' : List Line) : Type 0 where
  pub unrelated : Related p q 0 0 → ⊥
  pub some : 1 ≤ n
  pub most : n ≤ 4 * K - 3
  pub named : i < n
  pub well : Wellformed (take n lines')
  pub rest : drop n lines' ≡ drop n lines
  pub tells : Tells p q 0 0 (formula (take n lines') i)
  pub deep : depth (formula (take n lines') i) ≡ d
  pub agreed : (k : ℕ) → k < d → Agree (joined p q) k 0 p.count
  pub disagreed : Agree (joined p q) d 0 p.count → ⊥
  pub least : (f : Formula) → Separates p q 0 0 f → d ≤ depth f

-- same exactly when some bisimulation relates the starts; then no line is written
abbrev pub Judged : Meaning → Meaning → ℕ → List Line → Verdict → List Line → Type 0
Judged p q K lines Same lines' = Related p q 0 0 × (lines' ≡ lines)
Judged p q K lines (Different n i d) lines' = Distinguished p q K lines n i d lines'

-- the states of both are numbered by their classes, and the least stable round is told
pub record Reported (p q : Meaning) (lines : List Line) (classes : List ℕ) (r : Report) (lines' : List Line) (classes' : List ℕ) : Type 0 where
  pub room : Short (p.count + q.count) lines classes → ⊥
  pub numbered : Classes (joined p q) (all_of (joined p q)) r.classes (λ s. slice_index classes' s)
  pub rest : drop (p.count + q.count) classes' ≡ drop (p.count + q.count) classes
  pub rounds : Rounds (joined p q) (all_of (joined p q)) r.rounds
  pub few : r.rounds ≤ p.count + q.count - 1
  pub verdict : Judged p q r.classes lines r.verdict lines'

-- refused exactly where there are too few places; then both buffers are as they were
abbrev pub Compared : Meaning → Meaning → List Line → List ℕ → Result Report CompareFault → List Line → List ℕ → Type 0
Compared p q lines classes (Ok r) lines' classes' = Reported p q lines classes r lines' classes'
Compared p q lines classes (Err Room) lines' classes' =
    Short (p.count + q.count) lines classes × (lines' ≡ lines) × (classes' ≡ classes)
