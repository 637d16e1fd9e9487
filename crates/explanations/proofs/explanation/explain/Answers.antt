use Rattle.std.proofs.Common.{string_bytes}
use Rattle.std.proofs.lemmas.Result.{IfOk-weaker}
use Rattle.terms.specs.Faults.{of_term}
use Rattle.explanations.specs.Explanations.{Answer}
use Rattle.explanations.proofs.Answering.{answered, terms_told}
use Rattle.explanations.proofs.explanation.explain.Goals as goal

pub returns : goal.returns
returns c =
    let left = c.args.left.now in
    let right = c.args.right.now in
    IfOk-weaker c.told.result _ _
    (λ t. answered of_term c.of_text-left.result c.of_text-right.result _ _ (λ o p. Answer o p left right (string_bytes t)) _ _ _ (string_bytes t) c.of_text-left.ensures.refuses c.of_text-right.ensures.refuses c.of_text-left.ensures.denotes c.of_text-right.ensures.denotes
    (λ v w d k told. terms_told v.given w.given _ _ (string_bytes t) d.0 k.0 d.1 k.1 told) (λ g e. e) (λ f e. e) (λ f g e. e))
    c.told.ensures
