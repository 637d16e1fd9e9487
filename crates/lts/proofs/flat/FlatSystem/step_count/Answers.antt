use Rattle.std.proofs.Common.{arith}
use Rattle.lts.proofs.Reading.{count_inside}
use Rattle.lts.proofs.flat.FlatSystem.step_count.Goals as goal

pub returns : goal.returns
returns g c = omega (arith, count_inside c.args.self.now.of.now c.args.s c.if-s-self.false)
