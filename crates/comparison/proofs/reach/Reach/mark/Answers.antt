use Rattle.std.proofs.Common.{ℕ, List, [], ◌∷◌, ◌+◌, length, length-append, sym, ap, ◌∙◌, subst, rules}
use Rattle.lts.specs.Laws.Member.{nth_last}
use Rattle.comparison.specs.Reach.{numbers, Reached}
use Rattle.comparison.proofs.Pairs.{take_whole}
use Rattle.comparison.proofs.Tables.{reached_more, total_new, total_old, total_none, total_few, total_weight}
use Rattle.comparison.proofs.Walking.{next_is}
use Rattle.comparison.proofs.reach.Reach.mark.Goals as goal

pub loop-action-init : goal.loop-action-init
loop-action-init g c =
    record { left = rw c.into_iter-action-iterator.ensures.into_iter_gives c.of-action-items.ensures; reached = λ a b x y. c.clear.ensures _; counted = total_none c.clear.new.self c.clear.ensures }

pub put-requires : goal.put-requires
put-requires g c =
    let round = c.args.round.now in
    let n = next_is (g.S.System.meaning round.system.now) (g.met.S.System.lawful round.system.now) c.args.t (length c.loop-action.yielded) c.loop-action.invariant.left c.in-Some.ensures.steps in
    record { action = n.action; class = round.low c.in-Some.target n.target }

pub overflow_add-pairs : goal.overflow_add-pairs
overflow_add-pairs g c = let h = total_few c.loop-action.self in let e = c.loop-action.invariant.counted in search rules

pub loop-action-preserved-then-put : goal.loop-action-preserved-then-put
loop-action-preserved-then-put g c =
    let round = c.args.round.now in
    let m = g.S.System.meaning round.system.now in
    let a = c.in-Some.action in
    let u = c.in-Some.target in
    let k = length c.loop-action.yielded in
    let inv = c.loop-action.invariant in
    let next = next_is m (g.met.S.System.lawful round.system.now) c.args.t k inv.left c.in-Some.ensures.steps in
    let n = numbers round.before.now.class in
    let low = round.low u next.target in
    let more = reached_more n (m.steps c.args.t) k a u _ _ _ next.listed low c.if-put.ensures inv.reached in
    let e = total_new _ _ a (n u) next.action low c.if-put.ensures in
    rw (length-append c.loop-action.yielded ((a, u) ∷ [])) (record { left = next.left; reached = more; counted = ap (λ (x : ℕ). x + 1) inv.counted ∙ sym e })

pub loop-action-preserved : goal.loop-action-preserved
loop-action-preserved g c =
    let round = c.args.round.now in
    let m = g.S.System.meaning round.system.now in
    let a = c.in-Some.action in
    let u = c.in-Some.target in
    let k = length c.loop-action.yielded in
    let inv = c.loop-action.invariant in
    let next = next_is m (g.met.S.System.lawful round.system.now) c.args.t k inv.left c.in-Some.ensures.steps in
    let n = numbers round.before.now.class in
    let more = reached_more n (m.steps c.args.t) k a u _ _ _ next.listed (round.low u next.target) c.if-put.ensures inv.reached in
    rw (length-append c.loop-action.yielded ((a, u) ∷ [])) (record { left = next.left; reached = more; counted = inv.counted ∙ sym (total_old _ _ a (n u) c.if-put.ensures) })

pub returns-clause-reached : goal.returns-clause-reached
returns-clause-reached g c =
    let n = numbers c.args.round.now.before.now.class in
    let xs = (g.S.System.meaning c.args.round.now.system.now).steps c.args.t in
    let k = length c.loop-action.yielded in
    let all = nth_last xs k (sym c.loop-action.invariant.left ∙ c.in-None.ensures.steps.0) in
    subst (λ (ys : List (ℕ × ℕ)). Reached n ys c.loop-action.self) (take_whole xs k all) c.loop-action.invariant.reached

pub returns-clause-weighed : goal.returns-clause-weighed
returns-clause-weighed g c =
    let n = numbers c.args.round.now.before.now.class in
    let xs = (g.S.System.meaning c.args.round.now.system.now).steps c.args.t in
    let k = length c.loop-action.yielded in
    let all = nth_last xs k (sym c.loop-action.invariant.left ∙ c.in-None.ensures.steps.0) in
    let reached = subst (λ (ys : List (ℕ × ℕ)). Reached n ys c.loop-action.self) (take_whole xs k all) c.loop-action.invariant.reached in
    c.loop-action.invariant.counted ∙ total_weight n xs c.loop-action.self reached
