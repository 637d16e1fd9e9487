use Rattle.std.proofs.Common.{◌-◌, length, drop, arith, length-drop, take_all}
use Rattle.std.proofs.lemmas.Result.{err_from_is_err_and}
use Rattle.commands.proofs.Misfits.{no_text}
use Rattle.commands.proofs.command.slot_and_text.Goals as goal

pub returns-in_err-found : goal.returns-in_err-found
returns-in_err-found c =
    let p = err_from_is_err_and c.from_residual-in_err-found.result c.from_residual-in_err-found.ensures.1 in
    let s = c.in_ok-slot.ensures in
    let h = c.in_err-found.ensures in
    rw (p.1, p.2, h.0) (no_text c.args.line.now c.in_ok-slot.slot s.0 s.1 s.2 c.requires (λ l. h.1 l tt), omega arith)

pub returns : goal.returns
returns c =
    let line = c.args.line.now in
    let h = c.in_ok-found.ensures in
    (c.in_ok-slot.ensures, (h.0, h.1, take_all (length line - 4) (drop 4 line) (simp length-drop (omega arith))))
