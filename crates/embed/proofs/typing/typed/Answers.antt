use Rattle.std.proofs.Common.{◌≡◌, ◌+◌, ◌<◌, ◌≤◌, length, sym, ap, subst, arith, rules, eqb-true}
use Rattle.console.specs.Answers.{state_of, Answered}
use Rattle.embed.proofs.Sessions.{written_short, typed_none, typed_more, begins_shorter}
use Rattle.embed.proofs.typing.typed.Goals as goal
use Rattle.embed.proofs.typing.typed.Goals.{then-loop-console-test+else-places-written-ge-ROOM, else-loop-console-test}

pub loop-console-init : goal.loop-console-init
loop-console-init c = typed_none c.args.input.now c.args.places.now _ c.new-console.ensures

pub loop-console-preserved : goal.loop-console-preserved
loop-console-preserved c =
    let l = c.loop-console in
    let some : 0 < length l.rest.now = search rules in
    let x = state_of l.console in
    let x' = state_of c.answer-answer.new.self in
    let bytes = c.bytes-bytes.result.now in
    let few = written_short c.answer-answer.result in
    let e = ap length c.bytes-bytes.ensures in
    let room = c.if-places-written-ge-ROOM.true in
    let fits : l.written + length bytes ≤ length c.args.places.now = omega arith in
    typed_more c.args.input.now c.args.places.now l.rest.now c.split_line.result.0.now bytes c.split_line.result.1.now l.written x x' l.places c.put.new.places l.invariant some c.split_line.ensures.line c.split_line.ensures.later (subst (λ bs. Answered x c.split_line.result.0.now bs x') (sym c.bytes-bytes.ensures) c.answer-answer.ensures) fits c.put.ensures

pub overflow_sub-result : goal.overflow_sub-result
overflow_sub-result c = begins_shorter c.loop-console.invariant.begins

pub returns : goal.returns
returns c =
    let l = c.loop-console in
    let short = begins_shorter l.invariant.begins in
    record { rest = l.rest.now; state = state_of l.console; typed = l.invariant; read = omega arith; stopped = elim c.loop-console-test.branch [ then-loop-console-test+else-places-written-ge-ROOM w ↦ λ some. omega (arith, w.if-places-written-ge-ROOM.false) | else-loop-console-test w ↦ λ some. (let none : length l.rest.now ≡ 0 = eqb-true (length l.rest.now) 0 (sym w.loop-console-test.ensures) in omega arith) ] }
