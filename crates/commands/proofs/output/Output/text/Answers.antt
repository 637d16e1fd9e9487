use Rattle.std.proofs.Common.{◌++◌, take, ap, ◌∙◌, arith, take_all}
use Rattle.commands.specs.Outputs.{written}
use Rattle.commands.proofs.Writing.{adds_none, adds_more, short}
use Rattle.commands.proofs.output.Output.text.Goals as goal

pub loop-byte-init : goal.loop-byte-init
loop-byte-init c =
    let x = c.args.self.now in
    let n = short x.bytes x.used x.room x.fits in
    adds_none (written x) (omega (arith, n, x.fits))

pub loop-byte-preserved : goal.loop-byte-preserved
loop-byte-preserved c = adds_more (written c.args.self.now) c.args.text.now c.loop-byte.byte-index (omega arith) c.loop-byte.invariant c.push.ensures

pub returns : goal.returns
returns c = c.loop-byte.invariant ∙ ap (λ t. take 32 (written c.args.self.now ++ t)) (take_all c.loop-byte.byte-index c.args.text.now c.loop-byte-test.false)
