use Rattle.std.proofs.Common.{◌≡◌, ℕ, List, ◌++◌, vec_items, string_bytes, ap, ◌∙◌}
use Rattle.std.proofs.lemmas.Result.{on_ok_weaker}
use Rattle.explanations.specs.Explanations.{sentence_text}
use Rattle.explanations.specs.Formulas.{readable_text}
use Rattle.explanations.specs.Givens.{word_way_text, word_difference_text}
use Rattle.explanations.specs.Ways.{Way}
use Rattle.explanations.specs.Parts.{shown}
use Rattle.listings.specs.Texts.{lines_text}
use Rattle.listings.proofs.Pieces.{four_pieces}
use Rattle.explanations.proofs.difference.push_difference.Goals as goal

pub returns : goal.returns
returns g c =
    let formula = c.args.formula in
    let steps = vec_items c.in_ok-steps.steps in
    let out = string_bytes c.push_way.new.out in
    let told : out ≡ string_bytes c.push_readable.new.out ++ word_way_text c.args.left c.as_slice.result.now → (x : List (ℕ × ℕ)) × Way (g.S.System.meaning c.args.source.now) 0 (shown formula) x × (out ≡ string_bytes c.args.out.now ++ word_difference_text c.args.left formula.lines.now formula.line c.args.depth x)
    = λ way. (
      steps,
      c.in_ok-steps.ensures,
      four_pieces (string_bytes c.args.out.now) (string_bytes c.push_lines.new.out) (string_bytes c.write.new.self) (string_bytes c.push_readable.new.out) out (lines_text formula.lines.now) (sentence_text formula.line c.args.depth) (readable_text (shown formula)) (word_way_text c.args.left steps)
          c.in_ok-push_lines.ensures c.in_ok-write.ensures.bytes c.in_ok-push_readable.ensures (way ∙ ap (λ z. string_bytes c.push_readable.new.out ++ word_way_text c.args.left z) c.as_slice.ensures.value),
    ) in
    on_ok_weaker _ told c.push_way.ensures
