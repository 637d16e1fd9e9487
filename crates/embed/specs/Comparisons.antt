-- What a comparison answers to C.
use Rattle.std.specs.Prelude.{◌≡◌, ℕ, ◌*◌, ◌/◌, min, List, ◌++◌, length, take, drop, replicate, Some, None, Ok, Err, Option, Result}
use Rattle.refusals.specs.declared.Refusal.{Refusal}
use Rattle.lts.specs.Meaning.{Meaning}
use Rattle.inputs.specs.Faults.{of_input}
use Rattle.inputs.specs.Inputs.{first_refusal_of, Denotes, meaning_of}
use Rattle.inputs.specs.declared.fault.InputFault.{InputFault}
use Rattle.inputs.specs.declared.input.Input.{Input}
use Rattle.inputs.specs.declared.parsed.Parsed.{Parsed}
use Rattle.formulas.specs.declared.line.Line.{Line}
use Rattle.formulas.specs.declared.line.Line.TheVariants.{True}
use Rattle.comparison.specs.Compared.{Compared}
use Rattle.comparison.specs.Faults.{of_compare}
use Rattle.comparison.specs.declared.fault.CompareFault.{CompareFault}
use Rattle.comparison.specs.declared.report.Report.{Report}
use Rattle.comparison.specs.declared.report.Verdict.{Verdict}
use Rattle.comparison.specs.declared.report.Verdict.TheVariants.{Same, Different}
use Rattle.embed.specs.Numbers.{layer_number, placed, place_number, numbers_of}
use Rattle.embed.specs.declared.comparing.Comparison.{Comparison}

-- a refusal of the left input (side 1), of the right one (side 2), or of the comparison itself (side 0)
abbrev pub refused_by : ℕ → Refusal → Comparison
refused_by side r = record { number = r.number; layer = layer_number r.layer; side = side; placed = placed r.place; same = 0; place = place_number r.place; classes = 0; rounds = 0; lines = 0; line = 0; depth = 0 }

abbrev pub compared_as : ℕ → ℕ → Verdict → Comparison
compared_as classes rounds Same = record { number = 0; layer = 0; side = 0; placed = 0; same = 1; place = 0; classes = classes; rounds = rounds; lines = 0; line = 0; depth = 0 }
compared_as classes rounds (Different n i d) = record { number = 0; layer = 0; side = 0; placed = 0; same = 0; place = 0; classes = classes; rounds = rounds; lines = n; line = i; depth = d }

-- the answer of a comparison, as a struct
abbrev pub told : Result Report CompareFault → Comparison
told (Ok r) = compared_as r.classes r.rounds r.verdict
told (Err f) = refused_by 0 (of_compare f)

-- how many lines a verdict names
abbrev pub line_count : Verdict → ℕ
line_count Same = 0
line_count (Different n i d) = n

abbrev pub written : Result Report CompareFault → ℕ
written (Ok r) = line_count r.verdict
written (Err f) = 0

-- as many lines as there are places for their numbers, and no more than any two inputs want
abbrev pub room : List ℕ → List Line
room numbers = take (min (length numbers / 3) 1021) (replicate 1021 True)

-- Two procedures were compared over so many lines. The lines that the report names are left as numbers at the front, and the
-- other numbers are as they were.
pub record Compares (left right : Meaning) (numbers classes : List ℕ) (answer : Comparison) (numbers' classes' : List ℕ) : Type 0 where
  pub result : Result Report CompareFault
  pub lines : List Line
  pub compared : Compared left right (room numbers) classes result lines classes'
  pub answered : answer ≡ told result
  pub numbered : numbers' ≡ numbers_of (take (written result) lines) ++ drop (3 * written result) numbers

-- an input that was read, or what its refusal answers
abbrev pub Read : ℕ → Input → Result Parsed Comparison → Type 0
Read side x (Ok p) = (first_refusal_of x ≡ None) × Denotes x (meaning_of p)
Read side x (Err told) = (f : InputFault) × (first_refusal_of x ≡ Some f) × (told ≡ refused_by side (of_input f))

-- what is answered, whether it was refused or not
abbrev pub either : Result Comparison Comparison → Comparison
either (Ok told) = told
either (Err told) = told

-- both inputs denote procedures, which were compared
pub record Weighed (x y : Input) (numbers classes : List ℕ) (answer : Comparison) (numbers' classes' : List ℕ) : Type 0 where
  pub left : Meaning
  pub right : Meaning
  pub left_denoted : Denotes x left
  pub right_denoted : Denotes y right
  pub compares : Compares left right numbers classes answer numbers' classes'

-- the first refusal of the left input, else that of the right one, else the comparison
abbrev pub Answer : Option InputFault → Option InputFault → Input → Input → List ℕ → List ℕ → Comparison → List ℕ → List ℕ → Type 0
Answer (Some f) g x y numbers classes answer numbers' classes' = (answer ≡ refused_by 1 (of_input f)) × (numbers' ≡ numbers) × (classes' ≡ classes)
Answer None (Some g) x y numbers classes answer numbers' classes' = (answer ≡ refused_by 2 (of_input g)) × (numbers' ≡ numbers) × (classes' ≡ classes)
Answer None None x y numbers classes answer numbers' classes' = Weighed x y numbers classes answer numbers' classes'

abbrev pub Answered : Input → Input → List ℕ → List ℕ → Comparison → List ℕ → List ℕ → Type 0
Answered x y numbers classes answer numbers' classes' = Answer (first_refusal_of x) (first_refusal_of y) x y numbers classes answer numbers' classes'
