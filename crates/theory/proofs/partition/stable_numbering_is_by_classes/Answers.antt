use Rattle.std.proofs.Common.{refl}
use Rattle.theory.proofs.Stability.{stable_classes}
use Rattle.theory.proofs.partition.stable_numbering_is_by_classes.Goals as goal

pub returns : goal.returns
returns c = record { value = refl; classes = stable_classes }
