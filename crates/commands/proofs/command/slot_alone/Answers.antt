use Rattle.std.proofs.Common.{arith}
use Rattle.std.proofs.lemmas.Result.{err_from_is_err_and}
use Rattle.commands.proofs.Misfits.{past_slot}
use Rattle.commands.proofs.command.slot_alone.Goals as goal

pub returns-in_err-end : goal.returns-in_err-end
returns-in_err-end c =
    let p = err_from_is_err_and c.from_residual-in_err-end.result c.from_residual-in_err-end.ensures.1 in
    let s = c.in_ok-slot.ensures in
    let h = c.in_err-end.ensures in
    rw (p.1, p.2, h.0) (past_slot c.args.line.now c.in_ok-slot.slot s.0 s.1 s.2 c.requires h.1, omega arith)
