use Rattle.std.proofs.Common.{◌+◌, refl}
use Rattle.std.proofs.lemmas.Result.{err_from_is_err_and}
use Rattle.accounts.specs.Account.{with_claim}
use Rattle.accounts.specs.Calls.{claim, cleared, refuses, claims}
use Rattle.shelves.specs.Standing.{filled}
use Rattle.shelves.proofs.Moving.{moves, put_does, put_ghost, claimed_keeps, claimed_means, slot_of}
use Rattle.shelves.proofs.shelf.Shelf.claim.Goals as goal

pub returns-in_err-row : goal.returns-in_err-row
returns-in_err-row c =
    let e = err_from_is_err_and c.from_residual.result c.from_residual.ensures.1 in
    rw (e.1, e.2) (record { moved = moves {c = claim c.args.slot} tt (refuses c.in_err-row.ensures); unspent = tt })

pub invariant_of-self : goal.invariant_of-self
invariant_of-self c =
    let x = c.args.self.now in
    let f = c.in_ok-row.ensures in
    let k = x.claims + 1 in
    let h = put_ghost x.number x.claims k x.slots.rows c.put.new.self.rows c.args.slot c.in_ok-row.row (with_claim (filled f.3.0) k) (claim c.args.slot) (cleared x.number c.args.slot k) f.1 x.room c.put.ensures (claimed_means f.3.0 c.in_ok-row.row k f.3.3) tt (claims f.0 (slot_of x.number x.claims x.slots.rows c.args.slot f.3.0 f.3.1))
    (claimed_keeps x.slots.rows c.args.slot k f.3.0 c.in_ok-row.row f.3.1 f.3.2 f.3.3) x.kept x.reached in
    record { room = h.0; kept = h.1; reached = h.2 }

pub returns : goal.returns
returns c =
    let x = c.args.self.now in
    let f = c.in_ok-row.ensures in
    let k = x.claims + 1 in
    rw c.with.ensures (record { moved = moves {c = claim c.args.slot} tt (put_does x.number x.claims k x.slots.rows c.put.new.self.rows c.args.slot c.in_ok-row.row (with_claim (filled f.3.0) k) (claim c.args.slot) (cleared x.number c.args.slot k) f.1 x.room c.put.ensures (claimed_means f.3.0 c.in_ok-row.row k f.3.3) tt (claims f.0 (slot_of x.number x.claims x.slots.rows c.args.slot f.3.0 f.3.1))); unspent = refl })
