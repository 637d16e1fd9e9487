use Rattle.std.proofs.Common.{arith}
use Rattle.std.proofs.lemmas.Result.{err_from_is_err_and}
use Rattle.commands.proofs.Misfits.{no_space, slot_found}
use Rattle.commands.proofs.command.slot.Goals as goal

pub returns-in_err-found : goal.returns-in_err-found
returns-in_err-found c =
    let p = err_from_is_err_and c.from_residual.result c.from_residual.ensures.1 in
    let h = c.in_err-found.ensures in
    rw (p.1, p.2, h.0) (no_space c.args.line.now c.requires (λ l. h.1 l tt), omega arith)

pub returns : goal.returns
returns c =
    let h = c.in_ok-found.ensures in
    slot_found c.args.line.now c.requires c.found-2.result h.0 h.1 c.found-2.ensures
