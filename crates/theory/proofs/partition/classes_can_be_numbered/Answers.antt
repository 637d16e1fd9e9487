use Rattle.std.proofs.Common.{refl}
use Rattle.theory.proofs.Stability.{numbering_exists, classes_exist}
use Rattle.theory.proofs.partition.classes_can_be_numbered.Goals as goal

pub returns : goal.returns
returns c = record { value = refl; round = numbering_exists; all = classes_exist }
