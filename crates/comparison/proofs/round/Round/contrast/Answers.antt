use Rattle.std.proofs.Common.{sym, ◌∙◌, subst}
use Rattle.comparison.specs.Reach.{numbers}
use Rattle.comparison.specs.Contrasts.{Contrast}
use Rattle.comparison.proofs.Contrasts.{alike_counted, alike_within}
use Rattle.comparison.proofs.round.Round.contrast.Goals as goal

pub returns-in_err-missing : goal.returns-in_err-missing
returns-in_err-missing g c =
    let m = g.S.System.meaning c.args.self.now.system.now in
    let law = g.met.S.System.lawful c.args.self.now.system.now in
    let n = numbers c.args.self.now.before.now.class in
    let same = alike_counted m law n c.args.self.now.low c.args.s.state c.args.leader.state c.args.here.now c.requires.reached c.in_err-missing.ensures (sym c.requires.pairs ∙ (c.if-s-leader.true ∙ c.requires.leads)) in
    subst (Contrast m n c.args.s c.args.leader c.args.from) (sym c.from_residual.ensures) same

pub returns-in_err-action : goal.returns-in_err-action
returns-in_err-action g c =
    let m = g.S.System.meaning c.args.self.now.system.now in
    let law = g.met.S.System.lawful c.args.self.now.system.now in
    let n = numbers c.args.self.now.before.now.class in
    let same = alike_within m law n c.args.self.now.low c.args.s.state c.args.leader.state c.mark-2.new.self c.mark.new.self c.mark-2.ensures.reached c.mark.ensures.reached c.in_default.ensures c.in_err-action.ensures in
    subst (Contrast m n c.args.s c.args.leader c.args.from) (sym c.from_residual-in_err-action.ensures) same
