use Rattle.std.proofs.Common.{string_bytes}
use Rattle.std.proofs.lemmas.Result.{IfOk-weaker}
use Rattle.inputs.specs.Faults.{of_input}
use Rattle.explanations.specs.Givens.{GivenAnswer, GivenTold}
use Rattle.explanations.proofs.Answering.{answered, givens_told}
use Rattle.explanations.proofs.given.explain_given.Goals as goal

pub returns : goal.returns
returns c =
    let left = c.args.left in
    let right = c.args.right in
    IfOk-weaker c.told.result _ _
    (λ t. answered of_input c.of_given-left.result c.of_given-right.result _ _ (λ o p. GivenAnswer o p left right (string_bytes t)) _ _ _ (string_bytes t) c.of_given-left.ensures.refuses c.of_given-right.ensures.refuses c.of_given-left.ensures.denotes c.of_given-right.ensures.denotes
    (λ v w d k told. coe 0 1 (i. GivenTold (d.0 i) (k.0 i) (string_bytes t)) (givens_told v.given w.given _ _ (string_bytes t) d.1 k.1 told)) (λ g e. e) (λ f e. e) (λ f g e. e))
    c.told.ensures
