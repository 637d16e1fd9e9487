use Rattle.std.proofs.Common.{◌*◌, vec_items, sym, ap, ◌∙◌, subst, arith}
use Rattle.std.proofs.lemmas.List.{take_rest}
use Rattle.formulas.specs.Lines.{formula}
use Rattle.explanations.specs.Ways.{lead}
use Rattle.explanations.proofs.Following.{Underway, first_by_marks, found_by_marks, holds_lead, step_further, way_whole, leads_over}
use Rattle.explanations.proofs.way.follow.Goals as goal

pub unreachable-requires : goal.unreachable-requires
unreachable-requires g c =
    let m = g.S.System.meaning c.args.source.now in
    let lawful = g.met.S.System.lawful c.args.source.now in
    let lines = c.args.formula.lines.now in
    let rest = c.loop-action.rest in
    let next = c.in-Some.next in
    let underway = c.loop-action.invariant.1 in
    let led = leads_over lines rest next c.in-Some.action c.loop-action.invariant.0 c.in-Some.ensures in
    let holds = holds_lead m lawful lines c.args.formula.line (vec_items c.loop-action.steps) c.loop-action.s rest.line c.in-Some.action next.line underway (led.1, led.2) in
    found_by_marks lawful lines c.args.work.now _ c.states-n.result c.loop-action.s c.in-Some.action next.line c.requires.marked c.states-n.ensures (take_rest c.args.work.now (next.line * c.states-n.result)) (omega (arith, led.1, underway.inside)) c.in_default-first_marked.ensures holds

pub loop-action-preserved : goal.loop-action-preserved
loop-action-preserved g c =
    let m = g.S.System.meaning c.args.source.now in
    let lawful = g.met.S.System.lawful c.args.source.now in
    let lines = c.args.formula.lines.now in
    let rest = c.loop-action.rest in
    let next = c.in-Some.next in
    let target = c.in-Some-first_marked.target in
    let underway = c.loop-action.invariant.1 in
    let led = leads_over lines rest next c.in-Some.action c.loop-action.invariant.0 c.in-Some.ensures in
    let first = first_by_marks lawful lines c.args.work.now _ c.states-n.result c.loop-action.s c.in-Some.action next.line c.requires.marked c.states-n.ensures (take_rest c.args.work.now (next.line * c.states-n.result)) (omega (arith, led.1, underway.inside)) target c.in-Some-first_marked.ensures in
    let further = step_further m lawful lines c.args.formula.line (vec_items c.loop-action.steps) c.loop-action.s rest.line c.in-Some.action next.line underway (led.1, led.2) target first in
    (led.0, subst (λ xs. Underway m lines c.args.formula.line xs target next.line) (sym c.in_ok-push.ensures.items) further)

pub returns : goal.returns
returns g c =
    let lines = c.args.formula.lines.now in
    let rest = c.loop-action.rest in
    way_whole (g.S.System.meaning c.args.source.now) lines c.args.formula.line (vec_items c.loop-action.steps) c.loop-action.s rest.line c.loop-action.invariant.1 (ap (λ xs. lead (formula xs rest.line)) (sym c.loop-action.invariant.0) ∙ c.in_default.ensures)
