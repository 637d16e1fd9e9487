use Rattle.std.proofs.Common.{length}
use Rattle.std.proofs.lemmas.Result.{err_from_is_err_and}
use Rattle.accounts.specs.Account.{with_pending}
use Rattle.accounts.specs.Calls.{submit, called_same}
use Rattle.lts.specs.Laws.Most.{narrow}
use Rattle.shelves.specs.Moves.{account_of}
use Rattle.shelves.specs.Standing.{filled}
use Rattle.shelves.proofs.Moving.{moves, put_does, put_ghost, slot_of}
use Rattle.shelves.proofs.Submitting.{with_procedure, room_does, different_does, same_does, same_keeps, pending_row, fault_promised, room_promised}
use Rattle.shelves.proofs.Viewing.{force_sound}
use Rattle.shelves.proofs.shelf.Shelf.submit.Goals as goal

pub returns-in_err-row : goal.returns-in_err-row
returns-in_err-row g c =
    let m = g.S.System.meaning c.args.source.now in
    let law = narrow (g.met.S.Source.fits c.args.source.now) g.S.Source.bounded (g.met.S.System.lawful c.args.source.now) in
    let e = err_from_is_err_and c.from_residual.result c.from_residual.ensures.1 in
    let h = c.in_err-row.ensures in
    rw (e.1, e.2) (fault_promised c.in_err-row.field-0.0 (account_of c.args.self.now) c.args.slot m c.args.lines.now c.args.classes.now h.1 law (h.0 (length c.args.lines.now) (length c.args.classes.now)))

pub weigh-requires : goal.weigh-requires
weigh-requires g c = force_sound c.args.self.now.slots.rows c.args.slot c.in_ok-row.row c.args.self.now.kept c.in_ok-row.ensures.1

pub returns-in_err-report : goal.returns-in_err-report
returns-in_err-report g c =
    let x = c.args.self.now in
    let m = g.S.System.meaning c.args.source.now in
    let law = narrow (g.met.S.Source.fits c.args.source.now) g.S.Source.bounded (g.met.S.System.lawful c.args.source.now) in
    let e = err_from_is_err_and c.from_residual-in_err-report.result c.from_residual-in_err-report.ensures.1 in
    let h = c.in_err-report.ensures in
    rw (e.1, e.2) (room_promised c.in_err-report.field-0.0 (account_of x) c.args.slot m c.args.lines.now c.weigh.new.lines c.args.classes.now c.weigh.new.classes h.0 h.2 h.3 law
    (room_does x.number x.claims x.slots.rows c.args.slot m c.in_ok-row.row c.in_ok-row.procedure c.args.lines.now c.args.classes.now c.in_ok-row.ensures h.1))

pub returns-in-Different : goal.returns-in-Different
returns-in-Different g c =
    let x = c.args.self.now in
    let m = g.S.System.meaning c.args.source.now in
    let law = narrow (g.met.S.Source.fits c.args.source.now) g.S.Source.bounded (g.met.S.System.lawful c.args.source.now) in
    let row = c.in_ok-row.row in
    let f = c.in_ok-row.ensures in
    let h = c.in_ok-report.ensures in
    record { moved = moves {c = submit c.args.slot m (length c.args.lines.now) (length c.args.classes.now)} law (different_does x.number x.claims x.slots.rows c.args.slot m row c.in_ok-row.procedure c.args.lines.now c.args.classes.now f c.in_ok-report.report c.weigh.new.lines c.weigh.new.classes h c.in-Different.lines c.in-Different.line c.in-Different.depth c.in-Different.is); submitted = (filled row, slot_of x.number x.claims x.slots.rows c.args.slot row f.1, h) }

pub invariant_of-self : goal.invariant_of-self
invariant_of-self g c =
    let x = c.args.self.now in
    let m = g.S.System.meaning c.args.source.now in
    let law = narrow (g.met.S.Source.fits c.args.source.now) g.S.Source.bounded (g.met.S.System.lawful c.args.source.now) in
    let row = c.in_ok-row.row in
    let p = c.in_ok-row.procedure in
    let f = c.in_ok-row.ensures in
    let h = c.in_ok-report.ensures in
    let h = put_ghost x.number x.claims x.claims x.slots.rows c.put.new.self.rows c.args.slot (with_procedure row p) (with_pending (filled row) m) (submit c.args.slot m (length c.args.lines.now) (length c.args.classes.now)) called_same f.0 x.room c.put.ensures (pending_row x.number x.claims x.slots.rows c.args.slot m row p c.args.lines.now c.args.classes.now f) law
    (same_does x.number x.claims x.slots.rows c.args.slot m row p c.args.lines.now c.args.classes.now f c.in_ok-report.report c.weigh.new.lines c.weigh.new.classes h c.in-Same.is)
    (same_keeps x.number x.claims x.slots.rows c.args.slot m row p c.args.lines.now c.args.classes.now f c.in_ok-report.report c.weigh.new.lines c.weigh.new.classes h c.in-Same.is) x.kept x.reached in
    record { room = h.0; kept = h.1; reached = h.2 }

pub returns-in-Same : goal.returns-in-Same
returns-in-Same g c =
    let x = c.args.self.now in
    let m = g.S.System.meaning c.args.source.now in
    let law = narrow (g.met.S.Source.fits c.args.source.now) g.S.Source.bounded (g.met.S.System.lawful c.args.source.now) in
    let row = c.in_ok-row.row in
    let p = c.in_ok-row.procedure in
    let f = c.in_ok-row.ensures in
    let h = c.in_ok-report.ensures in
    record { moved = moves {c = submit c.args.slot m (length c.args.lines.now) (length c.args.classes.now)} law (put_does x.number x.claims x.claims x.slots.rows c.put.new.self.rows c.args.slot (with_procedure row p) (with_pending (filled row) m) (submit c.args.slot m (length c.args.lines.now) (length c.args.classes.now)) called_same f.0 x.room c.put.ensures (pending_row x.number x.claims x.slots.rows c.args.slot m row p c.args.lines.now c.args.classes.now f) law (same_does x.number x.claims x.slots.rows c.args.slot m row p c.args.lines.now c.args.classes.now f c.in_ok-report.report c.weigh.new.lines c.weigh.new.classes h c.in-Same.is)); submitted = (filled row, slot_of x.number x.claims x.slots.rows c.args.slot row f.1, h) }
