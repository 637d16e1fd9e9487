-- What is told of two procedures that are given as words, of a term or of a table file.
use Rattle.std.specs.Prelude.{◌≡◌, ℕ, List, [], ◌++◌, take, replicate, Some, None, Ok, codes, Option}
use Rattle.refusals.specs.Texts.{refusal_text}
use Rattle.lts.specs.Meaning.{Meaning, In}
use Rattle.inputs.specs.declared.fault.InputFault.{InputFault}
use Rattle.inputs.specs.declared.word.Given.{Given}
use Rattle.inputs.specs.declared.word.Word.{Word}
use Rattle.inputs.specs.declared.word.Word.TheVariants.{Term, File}
use Rattle.inputs.specs.Faults.{of_input}
use Rattle.inputs.specs.Inputs.{first_refusal_of, Denotes}
use Rattle.inputs.specs.Words.{word_text, input_of, word_of}
use Rattle.formulas.specs.declared.line.Line.{Line}
use Rattle.formulas.specs.declared.line.Line.TheVariants.{True}
use Rattle.formulas.specs.Lines.{formula}
use Rattle.comparison.specs.declared.report.Report.{Report}
use Rattle.comparison.specs.declared.report.Verdict.{Verdict}
use Rattle.comparison.specs.declared.report.Verdict.TheVariants.{Same, Different}
use Rattle.comparison.specs.Compared.{Compared}
use Rattle.listings.specs.Offsets.{Stands}
use Rattle.listings.specs.Texts.{lines_text}
use Rattle.explanations.specs.declared.side.Side.{Side}
use Rattle.explanations.specs.declared.side.Side.TheVariants.{Left, Right}
use Rattle.explanations.specs.Explanations.{sentence_text, summary_text, Followed}
use Rattle.explanations.specs.Sides.{side_text}
use Rattle.explanations.specs.Formulas.{readable_text}
use Rattle.explanations.specs.Ways.{way_text, moves_text}

-- the steps from the start of what a word names
abbrev pub word_way_text : Word → List (ℕ × ℕ) → List ℕ
word_way_text (Term text) steps = way_text text.now steps
word_way_text (File path) steps = moves_text 0 steps

-- the actions of a term's steps stand in its text where they are said to; of a table's steps the way tells the states
abbrev pub Placed : Word → List (ℕ × ℕ) → Type 0
Placed (Term text) steps = (step : ℕ × ℕ) → In step steps → Stands text.now step
Placed (File path) steps = Unit {0}

-- `left refused 12 at 2`
abbrev pub input_refused_text : Side → InputFault → List ℕ
input_refused_text side fault = side_text side ++ (codes " " ++ (refusal_text (of_input fault) ++ codes "\n"))

-- the lines, what line i shows, its formula, and the steps that it asks for first
abbrev pub word_difference_text : Word → List Line → ℕ → ℕ → List (ℕ × ℕ) → List ℕ
word_difference_text left lines i d steps = lines_text lines ++ (sentence_text i d ++ (readable_text (formula lines i) ++ word_way_text left steps))

-- nothing more where the two are the same
abbrev pub word_outcome_text : Word → Verdict → List Line → List (ℕ × ℕ) → List ℕ
word_outcome_text left Same lines steps = []
word_outcome_text left (Different n i d) lines steps = word_difference_text left (take n lines) i d steps

-- What is given denotes two procedures, which were compared over buffers of 1,021 lines and 256 class numbers, and the
-- report and the buffers are told. Each step that is named stands where it is said to.
pub record GivenTold (left right : Given) (out : List ℕ) : Type 0 where
  pub p : Meaning
  pub q : Meaning
  pub left_denotes : Denotes (input_of left) p
  pub right_denotes : Denotes (input_of right) q
  pub report : Report
  pub lines : List Line
  pub classes : List ℕ
  pub compared : Compared p q (replicate 1021 True) (replicate 256 0) (Ok report) lines classes
  pub steps : List (ℕ × ℕ)
  pub followed : Followed p report.verdict lines steps
  pub placed : Placed (word_of left) steps
  pub text : out ≡ summary_text (word_text (word_of left)) (word_text (word_of right)) p q report classes ++ word_outcome_text (word_of left) report.verdict lines steps

-- by the refusals of the two
abbrev pub GivenAnswer : Option InputFault → Option InputFault → Given → Given → List ℕ → Type 0
GivenAnswer None None left right out = GivenTold left right out
GivenAnswer None (Some g) left right out = out ≡ input_refused_text Right g
GivenAnswer (Some f) None left right out = out ≡ input_refused_text Left f
GivenAnswer (Some f) (Some g) left right out = out ≡ input_refused_text Left f ++ input_refused_text Right g

-- each refused input with its first refusal, or else what the comparison answers
abbrev pub GivenExplained : Given → Given → List ℕ → Type 0
GivenExplained left right out = GivenAnswer (first_refusal_of (input_of left)) (first_refusal_of (input_of right)) left right out
