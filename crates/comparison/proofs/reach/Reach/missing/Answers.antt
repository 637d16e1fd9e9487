use Rattle.std.proofs.Common.{◌≡◌, ℕ, true, List, [], ◌∷◌, length, length-append, subst, sym, refl, ◌∙◌, arith}
use Rattle.lts.specs.Laws.Member.{nth_in, nth_last}
use Rattle.comparison.specs.Reach.{numbers, hits, holds}
use Rattle.comparison.proofs.Pairs.{in_hits, lacks_more, take_whole}
use Rattle.comparison.proofs.Walking.{next_is}
use Rattle.comparison.proofs.reach.Reach.missing.Goals as goal

pub loop-action-init : goal.loop-action-init
loop-action-init g c =
    record { left = rw c.into_iter-action-iterator.ensures.into_iter_gives c.of-action-items.ensures; held = λ a c' e. let z : ◌≡◌ {A = ℕ} 0 1 = cc in let b : ⊥ = omega arith in absurd b }

pub has-requires : goal.has-requires
has-requires g c =
    let round = c.args.round.now in
    let n = next_is (g.S.System.meaning round.system.now) (g.met.S.System.lawful round.system.now) c.args.t (length c.loop-action.yielded) c.loop-action.invariant.left c.in-Some.ensures.steps in
    record { action = n.action; class = round.low c.in-Some.target n.target }

pub returns-then-not-has : goal.returns-then-not-has
returns-then-not-has g c =
    let round = c.args.round.now in
    let m = g.S.System.meaning round.system.now in
    let a = c.in-Some.action in
    let u = c.in-Some.target in
    let k = length c.loop-action.yielded in
    let n = next_is m (g.met.S.System.lawful round.system.now) c.args.t k c.loop-action.invariant.left c.in-Some.ensures.steps in
    (n.action, round.low u n.target, in_hits (numbers round.before.now.class) a (numbers round.before.now.class u) u (m.steps c.args.t) (nth_in (a, u) (m.steps c.args.t) k (sym n.listed)) refl, sym c.if-not-has.ensures)

pub loop-action-preserved : goal.loop-action-preserved
loop-action-preserved g c =
    let round = c.args.round.now in
    let m = g.S.System.meaning round.system.now in
    let a = c.in-Some.action in
    let u = c.in-Some.target in
    let k = length c.loop-action.yielded in
    let n = next_is m (g.met.S.System.lawful round.system.now) c.args.t k c.loop-action.invariant.left c.in-Some.ensures.steps in
    rw (length-append c.loop-action.yielded ((a, u) ∷ [])) (record { left = n.left; held = lacks_more (numbers round.before.now.class) (holds c.args.self.now) (m.steps c.args.t) k a u n.listed (sym c.if-not-has.ensures) c.loop-action.invariant.held })

pub returns : goal.returns
returns g c =
    let n = numbers c.args.round.now.before.now.class in
    let xs = (g.S.System.meaning c.args.round.now.system.now).steps c.args.t in
    let k = length c.loop-action.yielded in
    let all = nth_last xs k (sym c.loop-action.invariant.left ∙ c.in-None.ensures.steps.0) in
    subst (λ (ys : List (ℕ × ℕ)). (a c' : ℕ) → hits n a c' ys ≡ true → holds c.args.self.now a c' ≡ true) (take_whole xs k all) c.loop-action.invariant.held
