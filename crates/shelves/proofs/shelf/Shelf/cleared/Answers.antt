use Rattle.std.proofs.Common.{rules}
use Rattle.shelves.proofs.Clearing.{never_claimed}
use Rattle.shelves.proofs.shelf.Shelf.cleared.Goals as goal

pub returns-in_err-procedure : goal.returns-in_err-procedure
returns-in_err-procedure c =
    let x = c.args.self.now in
    never_claimed x.slots.rows c.args.clearance.now.numbers.slot c.in_ok-row.row c.in_ok-latest.latest x.kept (search rules) c.in_ok-latest.was c.in_err-procedure.was
