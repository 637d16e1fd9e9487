-- What is written for a term's text, and for an input.
use Rattle.std.specs.Prelude.{◌≡◌, ℕ, List, ◌++◌, codes, MatchOption}
use Rattle.refusals.specs.Texts.{refusal_text}
use Rattle.lts.specs.Meaning.{Meaning}
use Rattle.terms.specs.Faults.{of_term}
use Rattle.terms.specs.Grammar.{Spells, sum}
use Rattle.terms.specs.Graph.{graph}
use Rattle.terms.specs.Scan.{first_refusal}
use Rattle.terms.specs.Syntax.{Tree}
use Rattle.inputs.specs.Faults.{of_input}
use Rattle.inputs.specs.Inputs.{first_refusal_of, Denotes}
use Rattle.inputs.specs.declared.input.Input.{Input}
use Rattle.drawings.specs.Texts.{drawing}
use Rattle.drawings.specs.declared.form.Form.{Form}

-- the drawing of the term that the text spells, or the line of its refusal
abbrev pub Drawn : Form → List ℕ → List ℕ → Type 0
Drawn form text out = MatchOption (first_refusal text) ((u : Tree) × Spells sum 0 text u × (out ≡ drawing form (graph u))) (λ fault. out ≡ refusal_text (of_term fault) ++ codes "\n")

-- the drawing of what the input denotes, or the line of its refusal
abbrev pub InputDrawn : Form → Input → List ℕ → Type 0
InputDrawn form input out = MatchOption (first_refusal_of input) ((m : Meaning) × Denotes input m × (out ≡ drawing form m)) (λ fault. out ≡ refusal_text (of_input fault) ++ codes "\n")
