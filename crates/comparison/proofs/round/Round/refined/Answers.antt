use Rattle.std.proofs.Common.{◌≤◌, add-one, arith}
use Rattle.comparison.specs.Marks.{written}
use Rattle.comparison.proofs.Closing.{opening, closing}
use Rattle.comparison.proofs.Marking.{kept_refl}
use Rattle.comparison.proofs.round.Round.refined.Goals as goal

pub loop-s-init : goal.loop-s-init
loop-s-init g c =
    let m = g.S.System.meaning c.args.self.now.system.now in
    let k = c.args.self.now.k in
    let old = c.args.self.now.before.now in
    let lines = written c.args.script.now in
    record { working = rw c.begin.ensures (opening m k old lines c.args.draft.now.links c.requires.linked c.requires.standing); kept = kept_refl lines }

pub returns-clause-standing : goal.returns-clause-standing
returns-clause-standing g c =
    let m = g.S.System.meaning c.args.self.now.system.now in
    let law = g.met.S.System.lawful c.args.self.now.system.now in
    let all : m.count ≤ c.loop-s.s = omega (arith, c.states-s-end.ensures) in
    let done = closing m law c.args.self.now.k c.loop-s.s c.args.self.now.before.now (written c.loop-s.script) c.loop-s.draft c.loop-s.invariant.working all in
    rw add-one done
