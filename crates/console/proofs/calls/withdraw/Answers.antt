use Rattle.std.proofs.Common.{lit≤}
use Rattle.std.proofs.lemmas.Result.{err_from_is_err_and}
use Rattle.shelves.specs.Moves.{account_of}
use Rattle.console.proofs.Claims.{withdrawal_accepted}
use Rattle.console.proofs.Lengths.{shelf_short}
use Rattle.console.proofs.Outcomes.{withdrawn, unwithdrawn}
use Rattle.console.proofs.calls.withdraw.Goals as goal

pub returns-in_err-clearance : goal.returns-in_err-clearance
returns-in_err-clearance c =
    let p = err_from_is_err_and c.from_residual.result c.from_residual.ensures.1 in
    let f = c.in_err-clearance.field-0.0 in
    rw (p.1, p.2) (record { did = λ entries. unwithdrawn (account_of c.args.shelf.now) entries c.args.slot f (account_of c.claim.new.self) c.in_err-clearance.ensures.moved.does; short = shelf_short f })

pub returns-in_err-withdraw : goal.returns-in_err-withdraw
returns-in_err-withdraw c = absurd (withdrawal_accepted c.in_ok-clearance.ensures.moved.does c.in_err-withdraw.ensures.moved.does)

pub returns : goal.returns
returns c =
    let k = c.in_ok-clearance.clearance.numbers in
    record { did = λ entries. withdrawn (account_of c.args.shelf.now) entries c.args.slot (account_of c.claim.new.self) (account_of c.withdraw.new.self) k.shelf k.slot k.claim c.in_ok-clearance.ensures.moved.does c.in_ok-withdraw.ensures.moved.does; short = lit≤ tt }
