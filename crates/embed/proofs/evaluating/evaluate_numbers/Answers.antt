use Rattle.std.proofs.Common.{◌≡◌, ◌-◌, ◌/◌, length, take, Err, refl, ap, ◌∙◌, subst}
use native.Mathlib.Nat.{sub-zero}
use Rattle.formulas.specs.Evaluation.{Evaluated}
use Rattle.formulas.specs.declared.fault.EvaluationFault.TheVariants.{Count}
use Rattle.inputs.specs.Inputs.{meaning_of}
use Rattle.embed.specs.Numbers.{lines_of}
use Rattle.embed.proofs.Many.{too_many}
use Rattle.embed.proofs.evaluating.evaluate_numbers.Goals as goal

pub returns-then-count-gt-MOST_LINES : goal.returns-then-count-gt-MOST_LINES
returns-then-count-gt-MOST_LINES c =
    record { result = Err Count; evaluated = (too_many c.args.numbers.now c.args.line c.args.state (meaning_of c.args.source.now).count (length c.args.work.now) c.if-count-gt-MOST_LINES.true, refl); answered = c.told.ensures }

pub returns : goal.returns
returns c =
    let n = length c.args.numbers.now / 3 in
    let lines : take (n - 0) c.read_lines.new.places ≡ lines_of c.args.numbers.now = ap (λ k. take k c.read_lines.new.places) (sub-zero n) ∙ c.read_lines.ensures in
    record { result = c.evaluate.result; evaluated = subst (λ ls. Evaluated (meaning_of c.args.source.now) ls c.args.line c.args.state c.args.work.now c.evaluate.result c.evaluate.new.work) lines c.evaluate.ensures; answered = c.told-2.ensures }
