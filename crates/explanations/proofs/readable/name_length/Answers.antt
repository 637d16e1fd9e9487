use Rattle.std.proofs.Common.{sym}
use Rattle.explanations.proofs.Spelling.{number_length}
use Rattle.explanations.proofs.readable.name_length.Goals as goal

pub returns-in-None-clause-length : goal.returns-in-None-clause-length
returns-in-None-clause-length c = sym (number_length c.args.action c.in-None.ensures c.requires)
