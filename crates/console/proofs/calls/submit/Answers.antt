use Rattle.std.proofs.Common.{sym, arith, rules}
use Rattle.std.proofs.lemmas.Result.{err_from_is_err_and}
use Rattle.terms.specs.Terms.{tree_of}
use Rattle.shelves.specs.Moves.{account_of}
use Rattle.console.proofs.Lengths.{term_short, shelf_short, same_short, different_short}
use Rattle.console.proofs.Outcomes.{lawful, unread_submit, same, different, never_same, unsubmitted}
use Rattle.console.proofs.Places.{refusal_near}
use Rattle.console.proofs.Room.{roomy}
use Rattle.console.proofs.calls.submit.Goals as goal

pub returns-in_err-term : goal.returns-in_err-term
returns-in_err-term c =
    let p = err_from_is_err_and c.from_residual.result c.from_residual.ensures.1 in
    let f = c.in_err-term.field-0.0 in
    let e = sym c.in_err-term.ensures.refuses in
    rw (p.1, p.2) (record { did = unread_submit (account_of c.args.shelf.now) c.args.map.now.entries c.args.text.now c.args.slot f e; short = term_short f (refusal_near c.args.text.now f e) })

pub returns-in-Ok : goal.returns-in-Ok
returns-in-Ok c =
    let map = c.args.map.now in
    let term = c.in_ok-term.term in
    let read = c.in_ok-term.ensures in
    let v = c.in-Ok.report in
    let h = c.in-Ok.ensures in
    record { did = same (account_of c.args.shelf.now) (account_of c.submit.new.self) map.entries c.args.text.now c.args.slot (tree_of term) (sym read.refuses) read.spelled (lawful map term) v _ c.submit.new.lines _ c.submit.new.classes h.submitted h.moved.does; short = same_short v.classes v.rounds (grind arith) (grind arith) }

pub returns-in-Different : goal.returns-in-Different
returns-in-Different c =
    let map = c.args.map.now in
    let term = c.in_ok-term.term in
    let read = c.in_ok-term.ensures in
    let f = c.in-Err-Different in
    let v = c.in-Different in
    record { did = different (account_of c.args.shelf.now) (account_of c.submit.new.self) map.entries c.args.text.now c.args.slot (tree_of term) (sym read.refuses) read.spelled (lawful map term) f.field-0 f.report f.field-0-is _ c.submit.new.lines _ c.submit.new.classes f.ensures.submitted f.ensures.moved.does v.lines v.line v.depth (search rules); short = different_short v.depth (grind arith) }

pub unreachable-requires : goal.unreachable-requires
unreachable-requires c =
    let map = c.args.map.now in
    let term = c.in_ok-term.term in
    let read = c.in_ok-term.ensures in
    let f = c.in-Err-Different in
    never_same (account_of c.args.shelf.now) (account_of c.submit.new.self) map.entries c.args.text.now c.args.slot (tree_of term) (sym read.refuses) read.spelled (lawful map term) f.field-0 f.report f.field-0-is _ c.submit.new.lines _ c.submit.new.classes f.ensures.submitted f.ensures.moved.does (search rules)

pub returns-in-Err : goal.returns-in-Err
returns-in-Err c =
    let x = c.args.shelf.now in
    let map = c.args.map.now in
    let term = c.in_ok-term.term in
    let read = c.in_ok-term.ensures in
    let law = lawful map term in
    let f = c.in-Err.refused in
    record { did = unsubmitted (account_of x) (account_of c.submit.new.self) map.entries c.args.text.now c.args.slot (tree_of term) (sym read.refuses) read.spelled law f c.submit.new.lines (λ report e. search rules) (λ n. roomy x.number x.claims x.slots.rows x.kept c.args.slot law) c.in-Err.ensures.moved.does; short = shelf_short f }
