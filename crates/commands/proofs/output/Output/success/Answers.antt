use Rattle.std.proofs.Common.{◌++◌, codes, decimal}
use Rattle.commands.specs.Outputs.{written}
use Rattle.commands.proofs.Writing.{adds_then}
use Rattle.commands.proofs.output.Output.success.Goals as goal

pub returns-in-Same : goal.returns-in-Same
returns-in-Same c =
    let x = written c.args.self.now in
    let K = decimal c.in-Same.classes in
    let r = decimal c.in-Same.rounds in
    let y = written c.text-in-Same.new.self in
    let z = written c.number.new.self in
    rw c.in-Same.is (adds_then x (codes "same ") (K ++ (codes " " ++ r)) c.text-in-Same.ensures (adds_then y K (codes " " ++ r) c.number.ensures (adds_then z (codes " ") r c.push.ensures c.number-in-Same.ensures)))

pub returns-in-Different : goal.returns-in-Different
returns-in-Different c = rw c.in-Different.is (adds_then (written c.args.self.now) (codes "different ") (decimal c.in-Different.depth) c.text-in-Different.ensures c.number-in-Different.ensures)
