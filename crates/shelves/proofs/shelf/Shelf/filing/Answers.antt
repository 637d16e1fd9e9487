use Rattle.std.proofs.Common.{rules}
use Rattle.shelves.proofs.Rows.{filing_row}
use Rattle.shelves.proofs.shelf.Shelf.filing.Goals as goal

pub returns : goal.returns
returns g c =
    let x = c.args.self.now in
    filing_row x.number x.slots.rows x.claims c.args.slot (g.S.System.meaning c.args.source.now) c.in_ok-procedure.procedure c.in_ok-place.ensures.0 (search rules) (search rules) (search rules) (search rules)
