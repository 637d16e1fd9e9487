use Rattle.std.proofs.Common.{ℕ, ◌+◌, ◌<◌, None, get_or, subst, arith}
use Rattle.comparison.specs.Reach.{holds}
use Rattle.comparison.specs.Links.{Jump, Next}
use Rattle.comparison.proofs.Linking.{arrive, begins, behind}
use Rattle.comparison.proofs.Sending.{sent_goes, sent_stays}
use Rattle.comparison.proofs.links.Links.sent.Goals as goal

pub loop-next-preserved : goal.loop-next-preserved
loop-next-preserved c =
    let has = holds c.args.here.now in
    let d = c.args.self.now in
    let inv = c.loop-next.invariant in
    let j = c.in-Some.j in
    let jump : Jump d.splits d.made c.loop-next.class inv.at j = subst (Next d.splits d.made c.loop-next.class inv.at) c.in-Some.is inv.next in
    let l = jump.inside in
    let at = arrive has d.splits c.args.first c.args.from c.loop-next.class inv.at j inv.is jump.on jump.quiet in
    let stays = sent_stays has d.splits c.args.first c.args.from j c.loop-next.class c.has.result at c.has.ensures c.if-has-split.false in
    record { low = inv.low; at = j + 1; inside = omega arith; is = stays; next = subst (λ (v : ℕ). Next d.splits d.made v (j + 1) (get_or d.nexts j None)) jump.of (c.requires.linked.nexts j l) }

pub loop-next-preserved-then-has-split : goal.loop-next-preserved-then-has-split
loop-next-preserved-then-has-split c =
    let has = holds c.args.here.now in
    let d = c.args.self.now in
    let first = c.args.first in
    let inv = c.loop-next.invariant in
    let j = c.in-Some.j in
    let jump : Jump d.splits d.made c.loop-next.class inv.at j = subst (Next d.splits d.made c.loop-next.class inv.at) c.in-Some.is inv.next in
    let l = jump.inside in
    let room = c.requires.room in
    let low : first + j < 256 = omega arith in
    let at = arrive has d.splits first c.args.from c.loop-next.class inv.at j inv.is jump.on jump.quiet in
    let goes = sent_goes has d.splits first c.args.from j c.loop-next.class c.has.result at jump.of c.has.ensures c.if-has-split.true in
    let n = c.first-next-then-has-split.result in
    let next = begins d.splits d.made (first + j) (get_or d.chains (first + j) None) n c.first-next-then-has-split.ensures (c.requires.linked.chains (first + j) low) in
    record { low = low; at = j + 1; inside = omega arith; is = goes; next = behind first d c.requires.born j l n next }

pub returns : goal.returns
returns c =
    let has = holds c.args.here.now in
    let d = c.args.self.now in
    let inv = c.loop-next.invariant in
    let none : Next d.splits d.made c.loop-next.class inv.at None = subst (Next d.splits d.made c.loop-next.class inv.at) c.in_default.is inv.next in
    arrive has d.splits c.args.first c.args.from c.loop-next.class inv.at d.made inv.is inv.inside none
