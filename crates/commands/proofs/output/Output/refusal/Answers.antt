use Rattle.std.proofs.Common.{◌++◌, codes, decimal, append-nil}
use Rattle.commands.specs.Outputs.{written}
use Rattle.commands.proofs.Writing.{adds_then}
use Rattle.commands.proofs.output.Output.refusal.Goals as goal

pub returns-in-Some : goal.returns-in-Some
returns-in-Some c =
    let n = decimal c.args.refusal.now.number in
    let p = decimal c.in-Some.place in
    rw c.in-Some.is (adds_then (written c.args.self.now) (codes "refused ") (n ++ (codes " at " ++ p)) c.text.ensures (adds_then (written c.text.new.self) n (codes " at " ++ p) c.number.ensures (adds_then (written c.number.new.self) (codes " at ") p c.text-in-Some.ensures c.number-in-Some.ensures)))

pub returns-in_default : goal.returns-in_default
returns-in_default c = rw (c.in_default.is, append-nil) (adds_then (written c.args.self.now) (codes "refused ") (decimal c.args.refusal.now.number) c.text.ensures c.number.ensures)
