use Rattle.std.proofs.Common.{◌+◌, ◌-◌, ◌*◌, ◌≤◌, length, arith, rules}
use Rattle.lts.specs.Laws.Most.{narrow}
use Rattle.comparison.specs.Marks.{written}
use Rattle.comparison.proofs.Reporting.{counts_low, fits_lines, reported_as}
use Rattle.comparison.proofs.comparing.compare_pair.Goals as goal

pub judged-verdict-requires : goal.judged-verdict-requires
judged-verdict-requires g c =
    let p = g.L.System.meaning c.args.system.now.left.now in
    let q = g.R.System.meaning c.args.system.now.right.now in
    let law_p = narrow (g.met.L.Source.fits c.args.system.now.left.now) g.L.Source.bounded (g.met.L.System.lawful c.args.system.now.left.now) in
    let law_q = narrow (g.met.R.Source.fits c.args.system.now.right.now) g.R.Source.bounded (g.met.R.System.lawful c.args.system.now.right.now) in
    let n = c.states-n.ensures in
    let lines_left = c.if-lines-n.false in
    let classes_left = c.if-classes-n.false in
    let line_room : 4 * (p.count + q.count) - 3 ≤ length c.args.lines.now = omega arith in
    let class_room : p.count + q.count ≤ length c.args.classes.now = omega arith in
    fits_lines p q law_p law_q c.states-start.result c.states-start.ensures (written c.compared-found.new.script) c.compared-found.result c.compared-found.ensures c.args.lines.now c.args.classes.now line_room class_room

pub overflow_cast-result : goal.overflow_cast-result
overflow_cast-result g c =
    let p = g.L.System.meaning c.args.system.now.left.now in
    let q = g.R.System.meaning c.args.system.now.right.now in
    let law_p = narrow (g.met.L.Source.fits c.args.system.now.left.now) g.L.Source.bounded (g.met.L.System.lawful c.args.system.now.left.now) in
    let law_q = narrow (g.met.R.Source.fits c.args.system.now.right.now) g.R.Source.bounded (g.met.R.System.lawful c.args.system.now.right.now) in
    let low = (counts_low p q law_p law_q c.states-start.result c.states-start.ensures (written c.compared-found.new.script) c.compared-found.result c.compared-found.ensures).0 in
    search rules

pub overflow_cast-result-2 : goal.overflow_cast-result-2
overflow_cast-result-2 g c =
    let p = g.L.System.meaning c.args.system.now.left.now in
    let q = g.R.System.meaning c.args.system.now.right.now in
    let law_p = narrow (g.met.L.Source.fits c.args.system.now.left.now) g.L.Source.bounded (g.met.L.System.lawful c.args.system.now.left.now) in
    let law_q = narrow (g.met.R.Source.fits c.args.system.now.right.now) g.R.Source.bounded (g.met.R.System.lawful c.args.system.now.right.now) in
    let low = (counts_low p q law_p law_q c.states-start.result c.states-start.ensures (written c.compared-found.new.script) c.compared-found.result c.compared-found.ensures).1 in
    search rules

pub returns : goal.returns
returns g c =
    let p = g.L.System.meaning c.args.system.now.left.now in
    let q = g.R.System.meaning c.args.system.now.right.now in
    let law_p = narrow (g.met.L.Source.fits c.args.system.now.left.now) g.L.Source.bounded (g.met.L.System.lawful c.args.system.now.left.now) in
    let law_q = narrow (g.met.R.Source.fits c.args.system.now.right.now) g.R.Source.bounded (g.met.R.System.lawful c.args.system.now.right.now) in
    let n = c.states-n.ensures in
    let lines_left = c.if-lines-n.false in
    let classes_left = c.if-classes-n.false in
    let line_room : 4 * (p.count + q.count) - 3 ≤ length c.args.lines.now = omega arith in
    let class_room : p.count + q.count ≤ length c.args.classes.now = omega arith in
    reported_as p q law_p law_q c.states-start.result c.states-start.ensures (written c.compared-found.new.script) c.compared-found.result c.compared-found.ensures c.args.lines.now c.args.classes.now line_room class_room c.states-n.result c.judged-verdict.result c.judged-verdict.new.lines c.put_front.new.to n c.judged-verdict.ensures.verdict c.judged-verdict.ensures.lines c.put_front.ensures
