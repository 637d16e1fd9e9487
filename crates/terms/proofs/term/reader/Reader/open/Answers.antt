use Rattle.std.proofs.Common.{refl, ap, arith}
use Rattle.terms.specs.Names.{named, one}
use Rattle.terms.specs.Reader.{opened}
use Rattle.terms.specs.Table.{at}
use Rattle.terms.proofs.Moves.{at_before, same_partial, stacked_push}
use Rattle.terms.proofs.term.reader.Reader.open.Goals as goal

pub invariant_of-self-clause-framed : goal.invariant_of-self-clause-framed
invariant_of-self-clause-framed c =
    let r = c.args.self.now in
    let room = r.room in
    let pushed = stacked_push r.frames r.depth (record { sum = r.sum; product = c.args.product }) (omega arith) in
    rw pushed ((r.summed, at_before r c.args.product c.requires), r.framed)

pub invariant_of-self-clause-balance : goal.invariant_of-self-clause-balance
invariant_of-self-clause-balance c =
    let r = c.args.self.now in
    let room = r.room in
    let pushed = stacked_push r.frames r.depth (record { sum = r.sum; product = c.args.product }) (omega arith) in
    let here = ap (λ p. one (named p)) c.requires in
    rw pushed (omega arith)

pub returns : goal.returns
returns c =
    let r = c.args.self.now in
    let room = r.room in
    let pushed = stacked_push r.frames r.depth (record { sum = r.sum; product = c.args.product }) (omega arith) in
    same_partial (ap (opened (at r.nodes)) pushed) refl refl refl
