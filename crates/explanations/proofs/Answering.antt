-- The answer about two versions, said of what they were read from.
use Rattle.std.proofs.Common.{◌≡◌, ℕ, List, ◌++◌, Some, None, Ok, Err, IfOk, Option, Result, subst}
use Rattle.refusals.specs.declared.Refusal.{Refusal}
use Rattle.lts.specs.Meaning.{Meaning}
use Rattle.terms.specs.Graph.{graph}
use Rattle.inputs.specs.Inputs.{Denotes}
use Rattle.inputs.specs.Words.{input_of, word_of}
use Rattle.inputs.specs.declared.word.Given.{Given}
use Rattle.inputs.specs.declared.word.Given.TheVariants.{Term}
use Rattle.explanations.specs.declared.side.Side.TheVariants.{Left, Right}
use Rattle.explanations.specs.Contrasts.{Contrasted}
use Rattle.explanations.specs.Explanations.{Told}
use Rattle.explanations.specs.Givens.{GivenTold}
use Rattle.explanations.specs.Refused.{refusal, refused_line, Answered}
use Rattle.explanations.proofs.Placing.{denotes_term, followed_stands, followed_placed}

-- an answer by the refusals of the two
pub answered : {V F : Type 0} (told : F → Refusal) (left right : Result V F) (o p : Option F) (Answer : Option F → Option F → Type 0) (Both : V → V → Type 0) (P Q : V → Type 0) (out : List ℕ) → refusal left ≡ o → refusal right ≡ p → IfOk left P → IfOk right Q → ((v w : V) → P v → Q w → Both v w → Answer None None) → ((g : F) → out ≡ refused_line {V = V} told Right (Err g) → Answer None (Some g)) → ((f : F) → out ≡ refused_line {V = V} told Left (Err f) → Answer (Some f) None) → ((f g : F) → out ≡ refused_line {V = V} told Left (Err f) ++ refused_line {V = V} told Right (Err g) → Answer (Some f) (Some g)) → Answered told Both left right out → Answer o p
answered told (Ok v) (Ok w) o p Answer Both P Q out e f h k both one two all a = subst (λ x. Answer x p) e (subst (λ y. Answer None y) f (both v w h k a))
answered told (Ok v) (Err g) o p Answer Both P Q out e f h k both one two all a = subst (λ x. Answer x p) e (subst (λ y. Answer None y) f (one g a))
answered told (Err i) (Ok w) o p Answer Both P Q out e f h k both one two all a = subst (λ x. Answer x p) e (subst (λ y. Answer (Some i) y) f (two i a))
answered told (Err i) (Err g) o p Answer Both P Q out e f h k both one two all a = subst (λ x. Answer x p) e (subst (λ y. Answer (Some i) y) f (all i g a))

-- of two terms
pub terms_told : (g h : Given) (m n : Meaning) {left right : _} (out : List ℕ) → g ≡ Term left → h ≡ Term right → Denotes (input_of g) m → Denotes (input_of h) n → Contrasted 512 128 (word_of g) (word_of h) m n out → Told left.now right.now out
terms_told g h m n {left} {right} out e f d k c =
    let t = denotes_term g m e d in
    let u = denotes_term h n f k in
    let told : Contrasted 512 128 (word_of (Term left)) (word_of (Term right)) (graph t.0) (graph u.0) out = coe 0 1 (i. Contrasted 512 128 (word_of (e i)) (word_of (f i)) (t.2 i) (u.2 i) out) c in
    record {
      t = t.0;
      u = u.0;
      left_spelled = t.1;
      right_spelled = u.1;
      report = told.report;
      lines = told.lines;
      classes = told.classes;
      compared = told.compared;
      steps = told.steps;
      followed = told.followed;
      stands = followed_stands left.now t.0 t.1 told.report.verdict told.lines told.steps told.followed;
      text = told.text;
    }

-- of two that are given as words
pub givens_told : (g h : Given) (m n : Meaning) (out : List ℕ) → Denotes (input_of g) m → Denotes (input_of h) n → Contrasted 1021 256 (word_of g) (word_of h) m n out → GivenTold g h out
givens_told g h m n out d k told =
    record {
      p = m;
      q = n;
      left_denotes = d;
      right_denotes = k;
      report = told.report;
      lines = told.lines;
      classes = told.classes;
      compared = told.compared;
      steps = told.steps;
      followed = told.followed;
      placed = followed_placed g m d told.report.verdict told.lines told.steps told.followed;
      text = told.text;
    }
