use Rattle.std.proofs.Common.{◌≡◌, ℕ, Some, None, Err, Result, ok_or, sym, ap, ◌∙◌}
use Rattle.std.specs.Result.{result_ok}
use Rattle.std.proofs.lemmas.Result.{err_from_is_err_and}
use Rattle.terms.specs.declared.fault.TermFault.{TermFault}
use Rattle.terms.specs.declared.fault.TermFault.TheVariants.{Misplaced}
use Rattle.terms.proofs.Letters.{letter_action, no_action}
use Rattle.terms.proofs.Moves.{act_takes, misfit}
use Rattle.terms.proofs.term.reader.Reader.feed.Goals as goal

pub returns-in_err-action-in-Before-default : goal.returns-in_err-action-in-Before-default
returns-in_err-action-in-Before-default c =
    let arm = c.in_err-action-in-Before-default in
    let none : c.action.result ≡ None = c.ok_or.ensures.ok_part ∙ ap result_ok arm.was in
    let e = err_from_is_err_and c.from_residual.result c.from_residual.ensures.1 in
    let fault : ◌≡◌ {A = Result ℕ TermFault} (Err arm.field-0.0) (Err (Misplaced c.args.offset)) = sym arm.was ∙ c.ok_or.ensures.value ∙ ap (λ o. ok_or o (Misplaced c.args.offset)) none in
    let same : arm.field-0.0 ≡ Misplaced c.args.offset = cc in
    rw (e.1, e.2, same) (misfit c.args.self.now c.in-Before-default.product c.args.byte c.args.offset c.in-Before-default.is-0 (no_action c.args.byte (rw none at c.action.ensures)) c.in-Before-default.is-1.1)

pub returns-in_ok-action-in-Before-default : goal.returns-in_ok-action-in-Before-default
returns-in_ok-action-in-Before-default c =
    let arm = c.in_ok-action-in-Before-default in
    let some : c.action.result ≡ Some arm.action = c.ok_or.ensures.ok_part ∙ ap result_ok arm.was in
    act_takes c.args.self.now c.act.new.self c.in-Before-default.product c.args.byte arm.action c.args.offset c.act.result c.in-Before-default.is-0 (letter_action (rw some at c.action.ensures)) c.act.ensures
