-- How two procedures compare, told.
use Rattle.std.specs.Prelude.{◌≡◌, ℕ, List, ◌++◌, replicate, Ok}
use Rattle.lts.specs.Meaning.{Meaning}
use Rattle.inputs.specs.Words.{word_text}
use Rattle.inputs.specs.declared.word.Word.{Word}
use Rattle.formulas.specs.declared.line.Line.{Line}
use Rattle.formulas.specs.declared.line.Line.TheVariants.{True}
use Rattle.comparison.specs.declared.report.Report.{Report}
use Rattle.comparison.specs.Compared.{Compared}
use Rattle.explanations.specs.Explanations.{summary_text, Followed}
use Rattle.explanations.specs.Givens.{word_outcome_text}

-- The procedures p and q, which the words name, were compared over buffers of so many lines and class numbers, and the
-- report and the buffers are told.
pub record Contrasted (most_lines most_classes : ℕ) (left right : Word) (p q : Meaning) (out : List ℕ) : Type 0 where
  pub report : Report
  pub lines : List Line
  pub classes : List ℕ
  pub compared : Compared p q (replicate most_lines True) (replicate most_classes 0) (Ok report) lines classes
  pub steps : List (ℕ × ℕ)
  pub followed : Followed p report.verdict lines steps
  pub text : out ≡ summary_text (word_text left) (word_text right) p q report classes ++ word_outcome_text left report.verdict lines steps
