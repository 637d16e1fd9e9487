use Rattle.terms.specs.Names.{stacked}
use Rattle.terms.proofs.Growing.{framed_grown, grown_grown}
use Rattle.terms.proofs.Moves.{act_lands}
use Rattle.terms.proofs.term.reader.Reader.act.Goals as goal

pub invariant_of-self-clause-framed : goal.invariant_of-self-clause-framed
invariant_of-self-clause-framed c =
    let r = c.args.self.now in
    framed_grown r.nodes c.multiply-product.new.self (grown_grown r.nodes c.push-leaf.new.self c.multiply-product.new.self c.push-leaf.ensures.grown c.multiply-product.ensures.grown) (stacked r.frames r.depth) r.framed

pub returns : goal.returns
returns c =
    act_lands c.args.self.now c.push-leaf.new.self c.multiply-product.new.self c.args.product c.args.action c.push-leaf.result c.multiply-product.result
    c.requires c.push-leaf.ensures c.multiply-product.ensures
