-- What a comparison finds.
use Rattle.std.specs.Prelude.{◌≡◌, ℕ, ◌+◌, ◌*◌, ◌<◌, ◌≤◌, List, length}
use Rattle.lts.specs.Meaning.{Meaning}
use Rattle.theory.specs.Rounds.{all_of, Stable, Rounds}
use Rattle.theory.specs.Classes.{Numbering}
use Rattle.formulas.specs.Lines.{Wellformed}
use Rattle.formulas.specs.declared.line.Line.{Line}
use Rattle.comparison.specs.Reach.{numbers}
use Rattle.comparison.specs.Found.{Found}
use Rattle.comparison.specs.declared.outcome.Outcome.{Outcome}

-- the classes of the least stable round, and what the rounds up to it tell of states 0 and q
pub record Compares (m : Meaning) (q : ℕ) (lines : List Line) (o : Outcome) : Type 0 where
  pub size : length o.classes.class ≡ 256
  pub numbering : Numbering m (all_of m) o.rounds o.classes.count (numbers o.classes.class)
  pub rounds : Rounds m (all_of m) o.rounds
  pub low : o.rounds < o.classes.count
  pub well : Wellformed lines
  pub few : length lines + 3 ≤ 4 * o.classes.count
  pub found : Found m q lines (o.rounds + 1) o.starts

-- no round below k is stable
abbrev pub Unstable : Meaning → ℕ → Type 0
Unstable m k = (j : ℕ) → j < k → Stable m (all_of m) j → ⊥
