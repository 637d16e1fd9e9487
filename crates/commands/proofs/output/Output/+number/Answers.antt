use Rattle.std.proofs.Common.{arith}
use Rattle.std.proofs.lemmas.Fmt.{decimal_digit}
use Rattle.commands.specs.Outputs.{written}
use Rattle.commands.proofs.Writing.{adds_digit}
use Rattle.commands.proofs.output.Output.+number.Goals as goal

pub returns-then-number-lt-BASE : goal.returns-then-number-lt-BASE
returns-then-number-lt-BASE t c = rw (decimal_digit c.args.number (omega arith)) c.push.ensures

pub returns-else-number-lt-BASE : goal.returns-else-number-lt-BASE
returns-else-number-lt-BASE t c = adds_digit (written c.args.self.now) c.args.number (omega arith) c.ranges.number.fits c.number.ensures c.push-else-number-lt-BASE.ensures
