use Rattle.std.proofs.Common.{arith}
use Rattle.commands.proofs.Writing.{push_byte, push_none}
use Rattle.commands.proofs.output.Output.push.Goals as goal

pub returns-then-self-lt-ROOM : goal.returns-then-self-lt-ROOM
returns-then-self-lt-ROOM c = let x = c.args.self.now in push_byte x.bytes x.used x.room c.args.byte (omega arith)

pub returns-else-self-lt-ROOM : goal.returns-else-self-lt-ROOM
returns-else-self-lt-ROOM c = let x = c.args.self.now in push_none x.bytes x.used x.room c.args.byte (omega arith) x.fits
