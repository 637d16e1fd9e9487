-- What the rounds tell of the starts.
use Rattle.std.specs.Prelude.{ℕ, ◌<◌, ◌≤◌, cond, List, length, Some, None, Option, ◌==◌}
use Rattle.lts.specs.Meaning.{Meaning}
use Rattle.theory.specs.Rounds.{Agree}
use Rattle.theory.specs.Formulas.{Tells, depth}
use Rattle.formulas.specs.Lines.{formula}
use Rattle.formulas.specs.declared.line.Line.{Line}
use Rattle.comparison.specs.Reach.{numbers}
use Rattle.comparison.specs.declared.partition.Partition.{Partition}
use Rattle.comparison.specs.declared.starts.Apart.{Apart}

-- with the classes p of round k; the right start is state q
abbrev pub watched : Option Apart → Partition → ℕ → ℕ → Option Apart
watched (Some x) p k q = Some x
watched None p k q = cond (numbers p.class 0 == numbers p.class q) None (Some (record { line = numbers p.marks (numbers p.class 0); depth = k }))

-- line i tells states 0 and q apart, nests at most d steps, and they agree at each round below d
pub record Told (m : Meaning) (q : ℕ) (lines : List Line) (i d : ℕ) : Type 0 where
  pub placed : i < length lines
  pub tells : Tells m m 0 q (formula lines i)
  pub shallow : depth (formula lines i) ≤ d
  pub agreed : (j : ℕ) → j < d → Agree m j 0 q

-- what is known behind the rounds below k
abbrev pub Found : Meaning → ℕ → List Line → ℕ → Option Apart → Type 0
Found m q lines k None = (j : ℕ) → j < k → Agree m j 0 q
Found m q lines k (Some x) = Told m q lines x.line x.depth
