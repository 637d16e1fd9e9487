-- The steps of a way stand where they are said to.
use Rattle.std.proofs.Common.{◌≡◌, ℕ, List, [], ◌∷◌, take, IsAscii, sym, subst, inl, inr}
use Rattle.lts.specs.Laws.Member.{nth_in}
use Rattle.lts.specs.Meaning.{Meaning, In}
use Rattle.theory.specs.Formulas.{Formula}
use Rattle.terms.specs.Grammar.{Spells, sum}
use Rattle.terms.specs.Graph.{graph}
use Rattle.terms.specs.Syntax.{Tree}
use Rattle.inputs.specs.Inputs.{Denotes}
use Rattle.inputs.specs.Words.{input_of, word_of}
use Rattle.inputs.specs.declared.input.Input.TheVariants as inputs
use Rattle.inputs.specs.declared.word.Given.{Given}
use Rattle.inputs.specs.declared.word.Given.TheVariants.{Term, File}
use Rattle.formulas.specs.declared.line.Line.{Line}
use Rattle.formulas.specs.Lines.{formula}
use Rattle.comparison.specs.declared.report.Verdict.{Verdict}
use Rattle.comparison.specs.declared.report.Verdict.TheVariants.{Same, Different}
use Rattle.listings.specs.Offsets.{Stands}
use Rattle.listings.proofs.Places.{step_stands}
use Rattle.explanations.specs.Explanations.{Followed}
use Rattle.explanations.specs.Givens.{Placed}
use Rattle.explanations.specs.Ways.{Way}
use Rattle.explanations.proofs.Letters.{spelled_ascii}

way_stands : (text : List ℕ) (t : Tree) → Spells sum 0 text t → (steps : List (ℕ × ℕ)) (s : ℕ) (f : Formula) → Way (graph t) s f steps → (step : ℕ × ℕ) → In step steps → Stands text step
way_stands text t sp [] s f w step h = absurd h
way_stands text t sp (x ∷ steps) s f w step (inl e) =
    subst (Stands text) (sym e) (step_stands text t sp s x.0 x.1 (nth_in x ((graph t).steps s) w.2.place w.2.listed))
way_stands text t sp (x ∷ steps) s f w step (inr h) = way_stands text t sp steps x.1 w.0 w.3 step h

pub followed_stands : (text : List ℕ) (t : Tree) → Spells sum 0 text t → (v : Verdict) (lines : List Line) (steps : List (ℕ × ℕ)) → Followed (graph t) v lines steps → (step : ℕ × ℕ) → In step steps → Stands text step
followed_stands text t sp Same lines steps e step h = absurd (subst (λ xs. In step xs) e h)
followed_stands text t sp (Different n i d) lines steps w step h = way_stands text t sp steps 0 (formula (take n lines) i) w step h

-- what a term's text denotes
pub denotes_term : (g : Given) (m : Meaning) {text : _} → g ≡ Term text → Denotes (input_of g) m → Denotes (inputs.Term text) m
denotes_term g m e h = subst (λ x. Denotes (input_of x) m) e h

pub term_ascii : (g : Given) (m : Meaning) {text : _} → g ≡ Term text → Denotes (input_of g) m → IsAscii text.now
term_ascii g m e h = spelled_ascii (denotes_term g m e h).1

pub followed_placed : (g : Given) (m : Meaning) → Denotes (input_of g) m → (v : Verdict) (lines : List Line) (steps : List (ℕ × ℕ)) → Followed m v lines steps → Placed (word_of g) steps
followed_placed (Term text) m d v lines steps f = followed_stands text.now d.0 d.1 v lines steps (subst (λ p. Followed p v lines steps) d.2 f)
followed_placed (File path bytes) m d v lines steps f = tt
