use Rattle.std.proofs.Common.{sym, lit≤}
use Rattle.std.proofs.lemmas.Result.{err_from_is_err_and}
use Rattle.terms.specs.Terms.{tree_of}
use Rattle.shelves.specs.Moves.{account_of}
use Rattle.console.proofs.Lengths.{term_short, shelf_short}
use Rattle.console.proofs.Outcomes.{lawful, unread_file, filed, unfiled}
use Rattle.console.proofs.Places.{refusal_near}
use Rattle.console.proofs.calls.file.Goals as goal

pub returns-in_err-term : goal.returns-in_err-term
returns-in_err-term c =
    let p = err_from_is_err_and c.from_residual.result c.from_residual.ensures.1 in
    let f = c.in_err-term.field-0.0 in
    let e = sym c.in_err-term.ensures.refuses in
    rw (p.1, p.2) (record { did = unread_file (account_of c.args.shelf.now) c.args.map.now.entries c.args.text.now c.args.slot f e; short = term_short f (refusal_near c.args.text.now f e) })

pub returns-in_err-file : goal.returns-in_err-file
returns-in_err-file c =
    let p = err_from_is_err_and c.from_residual-in_err-file.result c.from_residual-in_err-file.ensures.1 in
    let f = c.in_err-file.field-0.0 in
    let map = c.args.map.now in
    let term = c.in_ok-term.term in
    let read = c.in_ok-term.ensures in
    rw (p.1, p.2) (record { did = unfiled (account_of c.args.shelf.now) (account_of c.file.new.self) map.entries c.args.text.now c.args.slot (tree_of term) (sym read.refuses) read.spelled (lawful map term) f c.in_err-file.ensures.does; short = shelf_short f })

pub returns : goal.returns
returns c =
    let map = c.args.map.now in
    let term = c.in_ok-term.term in
    let read = c.in_ok-term.ensures in
    record { did = filed (account_of c.args.shelf.now) (account_of c.file.new.self) map.entries c.args.text.now c.args.slot (tree_of term) (sym read.refuses) read.spelled (lawful map term) c.in_ok-file.ensures.does; short = lit≤ tt }
