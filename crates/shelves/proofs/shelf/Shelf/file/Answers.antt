use Rattle.std.proofs.lemmas.Result.{err_from_is_err_and}
use Rattle.accounts.specs.Account.{fresh}
use Rattle.accounts.specs.Calls.{file, accepted, refuses, files}
use Rattle.lts.specs.Laws.Most.{narrow}
use Rattle.shelves.proofs.Moving.{moves, put_does, put_ghost}
use Rattle.shelves.proofs.shelf.Shelf.file.Goals as goal

pub returns-in_err-row : goal.returns-in_err-row
returns-in_err-row g c =
    let m = g.S.System.meaning c.args.source.now in
    let e = err_from_is_err_and c.from_residual.result c.from_residual.ensures.1 in
    rw (e.1, e.2) (moves (narrow (g.met.S.Source.fits c.args.source.now) g.S.Source.bounded (g.met.S.System.lawful c.args.source.now)) (refuses c.in_err-row.ensures))

pub invariant_of-self : goal.invariant_of-self
invariant_of-self g c =
    let x = c.args.self.now in
    let m = g.S.System.meaning c.args.source.now in
    let f = c.in_ok-row.ensures in
    let h = put_ghost x.number x.claims x.claims x.slots.rows c.put.new.self.rows c.args.slot c.in_ok-row.row (fresh m) (file c.args.slot m) accepted f.1 x.room c.put.ensures f.3 (narrow (g.met.S.Source.fits c.args.source.now) g.S.Source.bounded (g.met.S.System.lawful c.args.source.now)) (files f.0) (λ _. f.2) x.kept x.reached in
    record { room = h.0; kept = h.1; reached = h.2 }

pub returns : goal.returns
returns g c =
    let x = c.args.self.now in
    let m = g.S.System.meaning c.args.source.now in
    let f = c.in_ok-row.ensures in
    let law = narrow (g.met.S.Source.fits c.args.source.now) g.S.Source.bounded (g.met.S.System.lawful c.args.source.now) in
    moves law (put_does x.number x.claims x.claims x.slots.rows c.put.new.self.rows c.args.slot c.in_ok-row.row (fresh m) (file c.args.slot m) accepted f.1 x.room c.put.ensures f.3 law (files f.0))
