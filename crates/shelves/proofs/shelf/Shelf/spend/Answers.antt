use Rattle.shelves.proofs.Clearing.{spent_account, spent_ghost}
use Rattle.shelves.proofs.shelf.Shelf.spend.Goals as goal

pub invariant_of-self : goal.invariant_of-self
invariant_of-self g c =
    let x = c.args.self.now in
    let k = c.args.clearance.now in
    let row = c.in_ok-row.row in
    let p = c.in_ok-row.procedure in
    let f = rw c.in_ok-row.ensures.ok_part at c.cleared.ensures in
    let h = spent_ghost x k row p f c.settle.result c.put.new.self.rows (rw c.from.ensures at c.put.ensures) (c.requires.settles row c.settle.result p c.settle.ensures) in
    record { room = h.0; kept = h.1; reached = h.2 }

pub returns-clause-moved : goal.returns-clause-moved
returns-clause-moved g c =
    let x = c.args.self.now in
    let k = c.args.clearance.now in
    let row = c.in_ok-row.row in
    let p = c.in_ok-row.procedure in
    let f = rw c.in_ok-row.ensures.ok_part at c.cleared.ensures in
    ((row, p), c.settle.result, f, c.settle.ensures, spent_account x k row p f c.settle.result c.put.new.self.rows (rw c.from.ensures at c.put.ensures))
