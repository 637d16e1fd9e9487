use Rattle.std.proofs.Common.{refl}
use Rattle.theory.proofs.Stability.{round_count, stable_count, class_count, round_few}
use Rattle.theory.proofs.partition.class_count_is_determined.Goals as goal

pub returns : goal.returns
returns c = record { value = refl; round = round_count; stable = stable_count; all = class_count; few = round_few }
