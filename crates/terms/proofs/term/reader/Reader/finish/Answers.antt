use Rattle.std.proofs.Common.{◌≡◌, arith}
use Rattle.terms.specs.Lists.{Drawn}
use Rattle.terms.specs.Table.{at, subtree}
use Rattle.terms.proofs.Finishing.{end_size, end_order}
use Rattle.terms.proofs.term.reader.Reader.finish.Goals as goal

pub of-requires : goal.of-requires
of-requires c =
    let r = c.args.self.now in
    let few = r.few in
    let size = end_size r c.add-root.new.self c.in-Behind.product c.add-root.result c.requires c.in-Behind.is c.if-self-eq0.true c.add-root.ensures in
    let s = c.subterm.ensures in
    let same : subtree c.subterm.result ≡ at c.add-root.new.self c.add-root.result = cc in
    rw same (omega arith)

pub invariant_of-result : goal.invariant_of-result
invariant_of-result c =
    let r = c.args.self.now in
    let n = c.add-root.new.self in
    let x = c.in-Behind.product in
    let k = c.add-root.result in
    let e = c.in-Behind.is in
    let o = c.if-self-eq0.true in
    let j = c.add-root.ensures in
    let s = c.subterm.ensures in
    let same : subtree c.subterm.result ≡ at n k = cc in
    let few = r.few in
    let drawn : Drawn (at n k) c.of.result = rw same at c.of.ensures in
    record {
      rooted = j.below;
      small = omega (arith, end_size r n x k c.requires e o j);
      order = end_order r n x k c.requires e o j;
      drawn = drawn;
    }
