-- Lines that mark states.
use Rattle.std.specs.Prelude.{◌≡◌, ℕ, ◌+◌, ◌<◌, ◌≤◌, ◌↔◌, List, [], ◌∷◌, ◌++◌, length, take}
use Rattle.lts.specs.Meaning.{Meaning}
use Rattle.theory.specs.Formulas.{Holds, depth}
use Rattle.formulas.specs.Lines.{formula}
use Rattle.formulas.specs.declared.line.Line.{Line}
use Rattle.formulas.specs.declared.line.Line.TheVariants.{Not, Both, Step}
use Rattle.comparison.specs.declared.script.Script.{Script}

-- the lines written so far
abbrev pub written : Script → List Line
written s = take s.used s.lines

-- line i holds at just the states of m where P does, and nests at most d steps
pub record Marks (m : Meaning) (lines : List Line) (d i : ℕ) (P : ℕ → Type 0) : Type 0 where
  pub placed : i < length lines
  pub shallow : depth (formula lines i) ≤ d
  pub exact : (t : ℕ) → t < m.count → Holds m t (formula lines i) ↔ P t

-- the lines go on, and earlier ones mean what they did
pub record Kept (before after : List Line) : Type 0 where
  pub longer : length before ≤ length after
  pub same : (i : ℕ) → i < length before → formula after i ≡ formula before i

-- one line more
abbrev pub with_line : List Line → Line → List Line
with_line lines x = lines ++ x ∷ []

-- four lines that divide the states of line j: those with a step by action a to where line i holds, and those without
abbrev pub divided : List Line → ℕ → ℕ → ℕ → List Line
divided lines a i j =
    with_line (with_line (with_line (with_line lines (Step a i)) (Both j (length lines))) (Not (length lines))) (Both j (length lines + 2))
