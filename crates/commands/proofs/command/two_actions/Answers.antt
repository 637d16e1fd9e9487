use Rattle.std.proofs.Common.{arith}
use Rattle.std.proofs.lemmas.Result.{err_from_is_err_and}
use Rattle.commands.specs.declared.verb.Verb.TheVariants.{Rename}
use Rattle.commands.proofs.Misfits.{at_space, no_from, no_to, past_actions}
use Rattle.commands.proofs.command.two_actions.Goals as goal

pub returns-in_err-found : goal.returns-in_err-found
returns-in_err-found c =
    let p = err_from_is_err_and c.from_residual.result c.from_residual.ensures.1 in
    let h = c.in_err-found.ensures in
    rw (p.1, p.2, h.0) (at_space c.args.line.now Rename c.requires (λ l. h.1 l tt), omega arith)

pub returns-in_err-from : goal.returns-in_err-from
returns-in_err-from c =
    let p = err_from_is_err_and c.from_residual-in_err-from.result c.from_residual-in_err-from.ensures.1 in
    let s = c.in_ok-found.ensures in
    let h = c.in_err-from.ensures in
    rw (p.1, p.2, h.0) (no_from c.args.line.now c.requires s.0 s.1 h.1, omega arith)

pub returns-in_err-to : goal.returns-in_err-to
returns-in_err-to c =
    let p = err_from_is_err_and c.from_residual-in_err-to.result c.from_residual-in_err-to.ensures.1 in
    let s = c.in_ok-found.ensures in
    let f = c.in_ok-from.ensures in
    let h = c.in_err-to.ensures in
    rw (p.1, p.2, h.0) (no_to c.args.line.now c.requires c.in_ok-from.from f.0 s.1 f.1 h.1, omega arith)

pub returns-in_err-end : goal.returns-in_err-end
returns-in_err-end c =
    let p = err_from_is_err_and c.from_residual-in_err-end.result c.from_residual-in_err-end.ensures.1 in
    let s = c.in_ok-found.ensures in
    let f = c.in_ok-from.ensures in
    let t = c.in_ok-to.ensures in
    let h = c.in_err-end.ensures in
    rw (p.1, p.2, h.0) (past_actions c.args.line.now c.requires c.in_ok-from.from f.0 s.1 f.1 c.in_ok-to.to h.1 t.1, omega arith)
