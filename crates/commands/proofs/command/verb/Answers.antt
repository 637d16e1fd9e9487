use Rattle.commands.proofs.Misfits.{letter_found}
use Rattle.commands.proofs.command.verb.Goals as goal

pub returns : goal.returns
returns c = letter_found c.args.line.now c.found.result c.found.ensures
