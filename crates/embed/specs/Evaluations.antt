-- What an evaluation answers to C.
use Rattle.std.specs.Prelude.{◌≡◌, ℕ, Bool, cond, List, Some, None, Ok, Err, Option, Result}
use Rattle.refusals.specs.declared.Refusal.{Refusal}
use Rattle.lts.specs.Meaning.{Meaning}
use Rattle.inputs.specs.Faults.{of_input}
use Rattle.inputs.specs.Inputs.{first_refusal_of, Denotes}
use Rattle.inputs.specs.declared.fault.InputFault.{InputFault}
use Rattle.inputs.specs.declared.input.Input.{Input}
use Rattle.formulas.specs.Evaluation.{Evaluated}
use Rattle.formulas.specs.Faults.{of_evaluation}
use Rattle.formulas.specs.declared.fault.EvaluationFault.{EvaluationFault}
use Rattle.embed.specs.Numbers.{layer_number, placed, place_number, lines_of}
use Rattle.embed.specs.declared.evaluating.Evaluation.{Evaluation}

abbrev pub refused : Refusal → Evaluation
refused r = record { number = r.number; layer = layer_number r.layer; placed = placed r.place; holds = 0; place = place_number r.place }

abbrev pub told : Result Bool EvaluationFault → Evaluation
told (Ok b) = record { number = 0; layer = 0; placed = 0; holds = cond b 1 0; place = 0 }
told (Err f) = refused (of_evaluation f)

-- the lines were evaluated over a procedure
pub record Evaluates (m : Meaning) (numbers : List ℕ) (line state : ℕ) (work : List ℕ) (answer : Evaluation) (work' : List ℕ) : Type 0 where
  pub result : Result Bool EvaluationFault
  pub evaluated : Evaluated m (lines_of numbers) line state work result work'
  pub answered : answer ≡ told result

-- the input denotes a procedure, over which the lines were evaluated
abbrev pub Weighed : Input → List ℕ → ℕ → ℕ → List ℕ → Evaluation → List ℕ → Type 0
Weighed x numbers line state work answer work' = (m : Meaning) × Denotes x m × Evaluates m numbers line state work answer work'

-- the first refusal of the input, else the evaluation
abbrev pub Answer : Option InputFault → Input → List ℕ → ℕ → ℕ → List ℕ → Evaluation → List ℕ → Type 0
Answer (Some f) x numbers line state work answer work' = (answer ≡ refused (of_input f)) × (work' ≡ work)
Answer None x numbers line state work answer work' = Weighed x numbers line state work answer work'

abbrev pub Answered : Input → List ℕ → ℕ → ℕ → List ℕ → Evaluation → List ℕ → Type 0
Answered x numbers line state work answer work' = Answer (first_refusal_of x) x numbers line state work answer work'
