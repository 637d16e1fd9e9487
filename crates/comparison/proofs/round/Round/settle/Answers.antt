use Rattle.std.proofs.Common.{◌+◌, None, get_or, sym, ◌∙◌, subst, ⊎_elim, arith, rules}
use Rattle.comparison.specs.Marks.{written}
use Rattle.comparison.specs.Reach.{numbers}
use Rattle.comparison.specs.Standing.{Working}
use Rattle.comparison.proofs.Joining.{join_works, lead_works, like_leader, classes_few, lands_at, lands_low, parting_at}
use Rattle.comparison.proofs.Tables.{weight_few}
use Rattle.comparison.proofs.round.Round.settle.Goals as goal

pub overflow_cast-weight : goal.overflow_cast-weight
overflow_cast-weight g c =
    let few = weight_few (numbers c.args.self.now.before.now.class) ((g.S.System.meaning c.args.self.now.system.now).steps c.args.s) in
    let is = c.mark-weight.ensures.weighed in
    search rules

pub sent-d-requires-clause-room : goal.sent-d-requires-clause-room
sent-d-requires-clause-room g c =
    let w = c.requires.working in
    let few = classes_few (g.met.S.System.lawful c.args.self.now.system.now) (omega arith) w c.requires.state in
    let e = w.counted in
    omega arith

pub leader-requires-clause-class : goal.leader-requires-clause-class
leader-requires-clause-class g c =
    lands_low (g.met.S.System.lawful c.args.self.now.system.now) (omega arith) c.requires.working c.requires.state c.mark-weight.new.self c.mark-weight.ensures.reached c.sent-d.result c.sent-d.ensures

pub lead-requires-clause-class : goal.lead-requires-clause-class
lead-requires-clause-class g c =
    let w = c.requires.working in
    let low = lands_low (g.met.S.System.lawful c.args.self.now.system.now) (omega arith) w c.requires.state c.mark-weight.new.self c.mark-weight.ensures.reached c.sent-d.result c.sent-d.ensures in
    let size = w.leaders_size in
    omega arith

pub returns-in_default-clause-working : goal.returns-in_default-clause-working
returns-in_default-clause-working g c =
    let m = g.S.System.meaning c.args.self.now.system.now in
    let law = g.met.S.System.lawful c.args.self.now.system.now in
    let w = c.requires.working in
    let is = lands_at law (omega arith) w c.requires.state c.mark-weight.new.self c.mark-weight.ensures.reached c.sent-d.result c.sent-d.ensures in
    let works = lead_works w c.requires.state law.few c.mark-weight.result c.sent-d.result c.mark-weight.ensures.weighed is (λ l e. absurd (c.in_default.not-Some l (c.leader.ensures ∙ e))) in
    subst (Working m c.args.self.now.k (c.args.s + 1) c.args.self.now.before.now (written c.args.script.now)) (sym c.lead.ensures) works

pub found-requires-clause-parting : goal.found-requires-clause-parting
found-requires-clause-parting g c =
    let m = g.S.System.meaning c.args.self.now.system.now in
    let law = g.met.S.System.lawful c.args.self.now.system.now in
    let is = lands_at law (omega arith) c.requires.working c.requires.state c.mark-weight.new.self c.mark-weight.ensures.reached c.sent-d.result c.sent-d.ensures in
    parting_at m (record { state = c.args.s; weight = c.mark-weight.result }) c.args.self.now.before.now c.args.draft.now c.in-Some.leader c.sent-d.result c.in-Some-contrast.split c.mark-weight.ensures.weighed is c.in-Some.ensures c.in-Some-contrast.ensures

pub returns-in-None-clause-working : goal.returns-in-None-clause-working
returns-in-None-clause-working g c =
    let m = g.S.System.meaning c.args.self.now.system.now in
    let law = g.met.S.System.lawful c.args.self.now.system.now in
    let w = c.requires.working in
    let state = c.requires.state in
    let d = c.sent-d.result in
    let old = c.args.self.now.before.now in
    let leaders = c.args.draft.now.leaders in
    let is = lands_at law (omega arith) w state c.mark-weight.new.self c.mark-weight.ensures.reached d c.sent-d.ensures in
    let like = c.in-None.ensures in
    let led_by = sym c.in-Some.ensures in
    let join = join_works w state law.few d c.in-Some.leader is led_by like in
    let lead = lead_works w state law.few c.mark-weight.result d c.mark-weight.ensures.weighed is (like_leader m (numbers old.class) c.args.s (get_or leaders d None) c.in-Some.leader led_by like) in
    ⊎_elim (λ e. subst (Working m c.args.self.now.k (c.args.s + 1) old (written c.args.script.now)) (sym e) join) (λ e. subst (Working m c.args.self.now.k (c.args.s + 1) old (written c.args.script.now)) (sym e) lead) c.follow.ensures
