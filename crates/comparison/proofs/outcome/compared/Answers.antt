use Rattle.lts.specs.Layout.{stored}
use Rattle.comparison.specs.Marks.{written}
use Rattle.comparison.proofs.Transfer.{compares_same, laid_same, laid_readable}
use Rattle.comparison.proofs.outcome.compared.Goals as goal

pub invariant_of-flat : goal.invariant_of-flat
invariant_of-flat g c =
    let m = g.S.System.meaning c.args.system.now in
    let law = g.met.S.System.lawful c.args.system.now in
    record { readable = laid_readable m law c.lay_all.new.self c.in-Some.ensures }

pub returns-in-Some : goal.returns-in-Some
returns-in-Some g c =
    let m = g.S.System.meaning c.args.system.now in
    let law = g.met.S.System.lawful c.args.system.now in
    let p = c.lay_all.new.self in
    compares_same (stored p.laid) m (laid_same m law p c.in-Some.ensures) c.args.right (written c.refine_all.new.script) c.refine_all.result c.refine_all.ensures
