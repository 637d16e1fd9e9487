use Rattle.std.proofs.Common.{◌+◌, Option, sym, subst, arith}
use Rattle.comparison.specs.Found.{Found}
use Rattle.comparison.specs.Marks.{written}
use Rattle.comparison.specs.Outcomes.{Compares}
use Rattle.comparison.specs.declared.starts.Apart.{Apart}
use Rattle.comparison.proofs.Ending.{standing_few, classes_low, goes_on, ends_here}
use Rattle.comparison.proofs.outcome.refine_all.Goals as goal

pub watch-starts-requires-clause-class : goal.watch-starts-requires-clause-class
watch-starts-requires-clause-class g c =
    let law = g.met.S.System.lawful c.args.system in
    classes_low (g.S.System.meaning c.args.system) law c.loop-k.k (written c.loop-k.script) c.loop-k.classes c.loop-k.invariant.standing (omega arith) 0 law.some

pub watch-starts-requires-clause-round : goal.watch-starts-requires-clause-round
watch-starts-requires-clause-round g c =
    let m = g.S.System.meaning c.args.system in
    let law = g.met.S.System.lawful c.args.system in
    let few = standing_few m law c.loop-k.k (written c.loop-k.script) c.loop-k.classes c.loop-k.invariant.standing in
    let states = law.few in
    let low = c.loop-k.invariant.low in
    omega arith

pub returns-then-next-classes : goal.returns-then-next-classes
returns-then-next-classes g c =
    let m = g.S.System.meaning c.args.system in
    let law = g.met.S.System.lawful c.args.system in
    let inv = c.loop-k.invariant in
    let done = ends_here m law c.loop-k.k (written c.loop-k.script) c.loop-k.classes inv.standing (written c.refined-next.new.script) c.refined-next.result c.refined-next.ensures.standing c.args.right c.requires.inside c.refined-next.ensures.kept c.loop-k.starts inv.found inv.unstable inv.low c.if-next-classes.true in
    subst (λ (t : Option Apart). Compares m c.args.right (written c.refined-next.new.script) (record { classes = c.loop-k.classes; rounds = c.loop-k.k; starts = t })) (sym c.watch-starts.ensures) done

pub unreachable-requires : goal.unreachable-requires
unreachable-requires g c =
    let m = g.S.System.meaning c.args.system in
    let law = g.met.S.System.lawful c.args.system in
    let few = standing_few m law c.loop-k.k (written c.loop-k.script) c.loop-k.classes c.loop-k.invariant.standing in
    let low = c.loop-k.invariant.low in
    let all = c.requires.few in
    omega (arith, c.loop-k-test.false)

pub loop-k-preserved : goal.loop-k-preserved
loop-k-preserved g c =
    let m = g.S.System.meaning c.args.system in
    let law = g.met.S.System.lawful c.args.system in
    let inv = c.loop-k.invariant in
    let on = goes_on m law c.loop-k.k (written c.loop-k.script) c.loop-k.classes inv.standing (written c.refined-next.new.script) c.refined-next.result c.refined-next.ensures.standing c.args.right c.requires.inside c.refined-next.ensures.kept c.loop-k.starts inv.found inv.unstable inv.low c.if-next-classes.false in
    record { linked = c.refined-next.ensures.linked; standing = c.refined-next.ensures.standing; found = subst (Found m c.args.right (written c.refined-next.new.script) (c.loop-k.k + 1)) (sym c.watch-starts.ensures) on.0; unstable = on.1; low = on.2 }

pub invariant_of-round : goal.invariant_of-round
invariant_of-round g c =
    let m = g.S.System.meaning c.args.system in
    let law = g.met.S.System.lawful c.args.system in
    record { low = classes_low m law c.loop-k.k (written c.loop-k.script) c.loop-k.classes c.loop-k.invariant.standing (omega arith) }
