-- What is told of two terms.
use Rattle.std.specs.Prelude.{◌≡◌, ℕ, ◌+◌, ◌<◌, ◌≤◌, List, [], ◌++◌, length, take, replicate, Some, None, Ok, codes, decimal, Option}
use Rattle.refusals.specs.Texts.{refusal_text}
use Rattle.lts.specs.Meaning.{Meaning, In}
use Rattle.theory.specs.Formulas.{Holds}
use Rattle.terms.specs.declared.fault.TermFault.{TermFault}
use Rattle.terms.specs.Faults.{of_term}
use Rattle.terms.specs.Grammar.{Spells, sum}
use Rattle.terms.specs.Graph.{graph}
use Rattle.terms.specs.Scan.{first_refusal}
use Rattle.terms.specs.Syntax.{Tree}
use Rattle.drawings.specs.declared.form.Form.TheVariants.{Table}
use Rattle.drawings.specs.Texts.{drawing}
use Rattle.formulas.specs.declared.line.Line.{Line}
use Rattle.formulas.specs.declared.line.Line.TheVariants.{True}
use Rattle.formulas.specs.Lines.{Wellformed, formula}
use Rattle.comparison.specs.declared.report.Report.{Report}
use Rattle.comparison.specs.declared.report.Verdict.{Verdict}
use Rattle.comparison.specs.declared.report.Verdict.TheVariants.{Same, Different}
use Rattle.comparison.specs.Compared.{Compared}
use Rattle.explanations.specs.declared.side.Side.{Side}
use Rattle.explanations.specs.declared.side.Side.TheVariants.{Left, Right}
use Rattle.listings.specs.Texts.{classes_text, lines_text}
use Rattle.explanations.specs.Sides.{side_text}
use Rattle.explanations.specs.Formulas.{readable_text}
use Rattle.listings.specs.Offsets.{Stands}
use Rattle.explanations.specs.Ways.{Way, way_text}

-- `left refused 12 at 2`
abbrev pub refused_text : Side → TermFault → List ℕ
refused_text side fault = side_text side ++ (codes " " ++ (refusal_text (of_term fault) ++ codes "\n"))

-- a text and the table of what it spells
abbrev pub procedure_text : Side → List ℕ → Meaning → List ℕ
procedure_text side text m = side_text side ++ (codes " " ++ (text ++ (codes "\n" ++ drawing Table m)))

abbrev pub verdict_word : Verdict → List ℕ
verdict_word Same = codes "same"
verdict_word (Different n i d) = codes "different"

abbrev pub verdict_text : Report → List ℕ
verdict_text r = verdict_word r.verdict ++ (codes ", " ++ (decimal r.classes ++ (codes " classes, " ++ (decimal r.rounds ++ codes " rounds\n"))))

-- line i tells the starts apart, and nests d steps
abbrev pub sentence_text : ℕ → ℕ → List ℕ
sentence_text i d = codes "line " ++ (decimal i ++ (codes " holds at the left start and fails at the right one, depth " ++ (decimal d ++ codes "\n")))

-- the lines, what line i shows, its formula, and where the steps stand that it asks for first
abbrev pub difference_text : List ℕ → List Line → ℕ → ℕ → List (ℕ × ℕ) → List ℕ
difference_text left lines i d steps = lines_text lines ++ (sentence_text i d ++ (readable_text (formula lines i) ++ way_text left steps))

-- nothing more where the two are the same
abbrev pub outcome_text : List ℕ → Verdict → List Line → List (ℕ × ℕ) → List ℕ
outcome_text left Same lines steps = []
outcome_text left (Different n i d) lines steps = difference_text left (take n lines) i d steps

-- the steps are those that the formula asks for first
abbrev pub Followed : Meaning → Verdict → List Line → List (ℕ × ℕ) → Type 0
Followed m Same lines steps = steps ≡ []
Followed m (Different n i d) lines steps = Way m 0 (formula (take n lines) i) steps

-- the first n of the lines can be told over m, and line i of them holds at its start
pub record Usable (m : Meaning) (n i : ℕ) (lines : List Line) : Type 0 where
  pub small : m.count ≤ 128
  pub few : n ≤ 1021
  pub room : n ≤ length lines
  pub well : Wellformed (take n lines)
  pub named : i < n
  pub holds : Holds m 0 (formula (take n lines) i)

abbrev pub Tellable : Meaning → Verdict → List Line → Type 0
Tellable m Same lines = Unit {0}
Tellable m (Different n i d) lines = Usable m n i lines

-- both texts with their tables, the verdict, and the classes
abbrev pub summary_text : List ℕ → List ℕ → Meaning → Meaning → Report → List ℕ → List ℕ
summary_text left right p q report classes =
    procedure_text Left left p ++ (procedure_text Right right q ++ (verdict_text report ++ classes_text p.count (take (p.count + q.count) classes) report.classes))

-- The texts spell terms, whose graphs were compared over buffers of 512 lines and 128 class numbers, and the report
-- and the buffers are told. Each step that is named stands in the left text where it is said to.
pub record Told (left right out : List ℕ) : Type 0 where
  pub t : Tree
  pub u : Tree
  pub left_spelled : Spells sum 0 left t
  pub right_spelled : Spells sum 0 right u
  pub report : Report
  pub lines : List Line
  pub classes : List ℕ
  pub compared : Compared (graph t) (graph u) (replicate 512 True) (replicate 128 0) (Ok report) lines classes
  pub steps : List (ℕ × ℕ)
  pub followed : Followed (graph t) report.verdict lines steps
  pub stands : (step : ℕ × ℕ) → In step steps → Stands left step
  pub text : out ≡ summary_text left right (graph t) (graph u) report classes ++ outcome_text left report.verdict lines steps

-- by the refusals of the two texts
abbrev pub Answer : Option TermFault → Option TermFault → List ℕ → List ℕ → List ℕ → Type 0
Answer None None left right out = Told left right out
Answer None (Some g) left right out = out ≡ refused_text Right g
Answer (Some f) None left right out = out ≡ refused_text Left f
Answer (Some f) (Some g) left right out = out ≡ refused_text Left f ++ refused_text Right g

-- each refused text with its first refusal, or else what the comparison answers
abbrev pub Explained : List ℕ → List ℕ → List ℕ → Type 0
Explained left right out = Answer (first_refusal left) (first_refusal right) left right out
