use Rattle.std.proofs.Common.{◌∙◌}
use Rattle.lts.proofs.Joining.{count_on}
use Rattle.lts.proofs.joined.PairSystem.step_count.Goals as goal

pub returns-else-s-n : goal.returns-else-s-n
returns-else-s-n g c =
    let p = g.L.System.meaning c.args.self.now.left.now in
    let q = g.R.System.meaning c.args.self.now.right.now in
    c.step_count-else-s-n.ensures ∙ count_on p q c.states-n.result c.args.s c.states-n.ensures c.if-s-n.false
