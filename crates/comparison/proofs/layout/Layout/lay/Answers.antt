use Rattle.std.proofs.Common.{ℕ, List, [], ◌∷◌, ◌-◌, length, length-append, sym, ◌∙◌, subst, arith}
use Rattle.lts.specs.Laws.Member.{nth_last}
use Rattle.lts.specs.Layout.{run}
use Rattle.comparison.specs.Layouts.{SameListed}
use Rattle.comparison.proofs.Laying.{lay_new, lay_old, close_state}
use Rattle.comparison.proofs.Pairs.{take_whole}
use Rattle.comparison.proofs.Walking.{next_is}
use Rattle.comparison.proofs.layout.Layout.lay.Goals as goal

pub put-requires : goal.put-requires
put-requires g c =
    let m = g.S.System.meaning c.args.system.now in
    let law = g.met.S.System.lawful c.args.system.now in
    let few = law.few in
    let next = next_is m law c.args.s (length c.loop-action.yielded) c.loop-action.invariant.left c.in-Some.ensures.steps in
    record { action = next.action; class = omega (arith, next.target) }

pub loop-action-preserved-in-Continue-1 : goal.loop-action-preserved-in-Continue-1
loop-action-preserved-in-Continue-1 g c =
    let m = g.S.System.meaning c.args.system.now in
    let law = g.met.S.System.lawful c.args.system.now in
    let few = law.few in
    let a = c.in-Some.action in
    let t = c.in-Some.target in
    let k = length c.loop-action.yielded in
    let inv = c.loop-action.invariant in
    let next = next_is m law c.args.s k inv.left c.in-Some.ensures.steps in
    let laid = lay_new m c.args.s c.args.self.now.used k a t c.loop-action.seen c.put.new.self c.loop-action.self inv.laying next.listed next.action (omega (arith, next.target)) c.if-put.ensures c.in_ok-push.ensures.room in
    rw (length-append c.loop-action.yielded ((a, t) ∷ []), c.in_ok-push.ensures.pushed) (record { left = next.left; laying = laid })

pub loop-action-preserved : goal.loop-action-preserved
loop-action-preserved g c =
    let m = g.S.System.meaning c.args.system.now in
    let law = g.met.S.System.lawful c.args.system.now in
    let few = law.few in
    let a = c.in-Some.action in
    let t = c.in-Some.target in
    let k = length c.loop-action.yielded in
    let inv = c.loop-action.invariant in
    let next = next_is m law c.args.s k inv.left c.in-Some.ensures.steps in
    rw (length-append c.loop-action.yielded ((a, t) ∷ [])) (record { left = next.left; laying = lay_old m c.args.s c.args.self.now.used k a t c.loop-action.seen c.put.new.self c.loop-action.self inv.laying next.listed next.action (omega (arith, next.target)) c.if-put.ensures })

pub returns : goal.returns
returns g c =
    let m = g.S.System.meaning c.args.system.now in
    let law = g.met.S.System.lawful c.args.system.now in
    let few = law.few in
    let state = c.requires.state in
    let i = c.args.self.now.used in
    let p = c.loop-action.self in
    let inv = c.loop-action.invariant in
    let k = length c.loop-action.yielded in
    let all = nth_last (m.steps c.args.s) k (sym inv.left ∙ c.in-None.ensures.steps.0) in
    let last = subst (λ (ys : List (ℕ × ℕ)). SameListed ys (run p.laid i (p.used - i))) (take_whole (m.steps c.args.s) k all) inv.laying.steps in
    close_state m c.args.s i p c.is_end.result (omega arith) inv.laying.begun c.is_end.ensures inv.laying.below last
