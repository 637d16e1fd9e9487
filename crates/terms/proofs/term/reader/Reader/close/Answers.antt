use Rattle.std.proofs.Common.{◌-◌}
use Rattle.terms.specs.Names.{stacked}
use Rattle.terms.proofs.Growing.{framed_grown, grown_grown}
use Rattle.terms.proofs.Moves.{stacked_pop, close_lands}
use Rattle.terms.proofs.term.reader.Reader.close.Goals as goal

pub invariant_of-self-clause-framed : goal.invariant_of-self-clause-framed
invariant_of-self-clause-framed c =
    let r = c.args.self.now in
    let framed = rw (stacked_pop r.frames r.depth c.requires.inside) at r.framed in
    framed_grown r.nodes c.multiply-product.new.self (grown_grown r.nodes c.add-whole.new.self c.multiply-product.new.self c.add-whole.ensures.grown c.multiply-product.ensures.grown) (stacked r.frames (r.depth - 1)) framed.1

pub returns : goal.returns
returns c =
    let r = c.args.self.now in
    close_lands r c.add-whole.new.self c.multiply-product.new.self _ c.args.product c.add-whole.result c.multiply-product.result
    (stacked_pop r.frames r.depth c.requires.inside) c.add-whole.ensures c.multiply-product.ensures
