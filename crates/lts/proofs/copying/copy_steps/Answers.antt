use Rattle.std.proofs.Common.{◌≡◌, ◌+◌, ◌-◌, ◌<◌, ◌≤◌, length, arith, rules, sym, ◌∙◌}
use Rattle.lts.specs.Laws.Counting.{before_more}
use Rattle.lts.specs.Laws.Member.{nth_first, nth_last}
use Rattle.lts.proofs.Filling.{put_step, close_state}
use Rattle.lts.proofs.copying.copy_steps.Goals as goal

pub loop-step-init : goal.loop-step-init
loop-step-init g c =
    let none : c.args.from - c.args.from ≡ 0 = omega arith in
    rw (c.into_iter-step-iterator.ensures.into_iter_gives, none) (record { left = c.of-step-items.ensures; begun = omega arith; inside = omega arith; filled = c.requires.filled })

pub bounds-to-end : goal.bounds-to-end
bounds-to-end g c =
    let m = g.S.System.meaning c.args.source.now in
    let inv = c.loop-step.invariant in
    let f = nth_first c.in-Some.step (m.steps c.args.s) _ _ (sym inv.left ∙ c.in-Some.ensures.steps) in
    omega (arith, inv.begun, f.1, c.requires.room)

pub offset_bounds-to-end : goal.offset_bounds-to-end
offset_bounds-to-end g c =
    let m = g.S.System.meaning c.args.source.now in
    let inv = c.loop-step.invariant in
    let f = nth_first c.in-Some.step (m.steps c.args.s) _ _ (sym inv.left ∙ c.in-Some.ensures.steps) in
    let inside : c.loop-step.end < 512 = omega (arith, inv.begun, f.1, c.requires.room) in
    search rules

pub overflow_add-end : goal.overflow_add-end
overflow_add-end g c =
    let m = g.S.System.meaning c.args.source.now in
    let inv = c.loop-step.invariant in
    let f = nth_first c.in-Some.step (m.steps c.args.s) _ _ (sym inv.left ∙ c.in-Some.ensures.steps) in
    let inside : c.loop-step.end < 512 = omega (arith, inv.begun, f.1, c.requires.room) in
    search rules

pub loop-step-preserved : goal.loop-step-preserved
loop-step-preserved g c =
    let m = g.S.System.meaning c.args.source.now in
    let inv = c.loop-step.invariant in
    let from = c.args.from in
    let end = c.loop-step.end in
    let k = end - from in
    let f = nth_first c.in-Some.step (m.steps c.args.s) _ k (sym inv.left ∙ c.in-Some.ensures.steps) in
    let put = put_step m c.args.s k from c.loop-step.to inv.filled c.requires.behind c.in-Some.step f.0 (omega (arith, inv.begun, f.1, c.requires.room)) in
    let place : from + (end - from) ≡ end = omega (arith, inv.begun) in
    let next : end + 1 - from ≡ end - from + 1 = omega (arith, inv.begun) in
    record { left = rw next f.2; begun = omega (arith, inv.begun); inside = omega (arith, inv.begun, f.1); filled = rw next (rw place at put) }

pub overflow_sub-to : goal.overflow_sub-to
overflow_sub-to g c = c.loop-step.invariant.begun

pub overflow_cast-to-2 : goal.overflow_cast-to-2
overflow_cast-to-2 g c =
    let room : c.loop-step.end - c.args.from ≤ 512 = omega (arith, c.loop-step.invariant.inside, c.requires.room) in
    search rules

pub returns-clause-behind : goal.returns-clause-behind
returns-clause-behind g c =
    let m = g.S.System.meaning c.args.source.now in
    let inv = c.loop-step.invariant in
    let last = nth_last (m.steps c.args.s) _ (sym inv.left ∙ c.in-None.ensures.steps.0) in
    omega (arith, before_more m c.args.s, c.requires.behind, inv.begun, inv.inside, last)

pub returns-clause-filled : goal.returns-clause-filled
returns-clause-filled g c =
    let m = g.S.System.meaning c.args.source.now in
    let inv = c.loop-step.invariant in
    let count = c.loop-step.end - c.args.from in
    let last = nth_last (m.steps c.args.s) count (sym inv.left ∙ c.in-None.ensures.steps.0) in
    let all : count ≡ length (m.steps c.args.s) = omega (arith, inv.inside, last) in
    let few = g.met.S.Source.fits c.args.source.now in
    let bound = g.S.Source.bounded in
    close_state m c.args.s count c.args.from c.loop-step.to inv.filled c.requires.behind all (omega (arith, c.requires.state))
