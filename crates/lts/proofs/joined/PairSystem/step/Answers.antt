use Rattle.std.proofs.Common.{◌∙◌, rules}
use Rattle.lts.specs.Laws.Most.{narrow}
use Rattle.lts.proofs.Joining.{none_on, step_on, target_on}
use Rattle.lts.proofs.joined.PairSystem.step.Goals as goal

pub returns-in_err-action : goal.returns-in_err-action
returns-in_err-action g c =
    let p = g.L.System.meaning c.args.self.now.left.now in
    let q = g.R.System.meaning c.args.self.now.right.now in
    c.from_residual.ensures ∙ none_on p q c.states-n.result c.args.s c.states-n.ensures c.if-s-n.false c.args.k c.in_err-action.ensures

pub overflow_add-result : goal.overflow_add-result
overflow_add-result g c =
    let left = narrow (g.met.L.Source.fits c.args.self.now.left.now) g.L.Source.bounded (g.met.L.System.lawful c.args.self.now.left.now) in
    let right = narrow (g.met.R.Source.fits c.args.self.now.right.now) g.R.Source.bounded (g.met.R.System.lawful c.args.self.now.right.now) in
    let p = g.L.System.meaning c.args.self.now.left.now in
    let q = g.R.System.meaning c.args.self.now.right.now in
    let h = target_on p q c.states-n.result c.args.s c.states-n.ensures c.if-s-n.false c.args.k c.in_ok-action.action c.in_ok-action.target c.in_ok-action.ensures left right in
    search rules

pub returns : goal.returns
returns g c =
    let p = g.L.System.meaning c.args.self.now.left.now in
    let q = g.R.System.meaning c.args.self.now.right.now in
    step_on p q c.states-n.result c.args.s c.states-n.ensures c.if-s-n.false c.args.k c.in_ok-action.action c.in_ok-action.target c.in_ok-action.ensures
