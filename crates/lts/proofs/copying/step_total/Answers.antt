use Rattle.std.proofs.Common.{rules}
use Rattle.lts.specs.Laws.Counting.{before_more}
use Rattle.lts.proofs.Counting.{before_few}
use Rattle.lts.proofs.copying.step_total.Goals as goal

pub overflow_add-all : goal.overflow_add-all
overflow_add-all g c =
    let m = g.S.System.meaning c.args.source.now in
    let law = g.met.S.System.lawful c.args.source.now in
    let b = before_few m law.short c.loop-s.s in
    let n = law.few in
    let l = law.short c.loop-s.s in
    search rules

pub loop-s-preserved : goal.loop-s-preserved
loop-s-preserved g c =
    let e = before_more (g.S.System.meaning c.args.source.now) c.loop-s.s in
    cc
