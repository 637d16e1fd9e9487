use Rattle.std.proofs.Common.{refl}
use Rattle.theory.proofs.Stability.{round_rises, round_stable}
use Rattle.theory.proofs.partition.class_counts_tell_stability.Goals as goal

pub returns : goal.returns
returns c = record { value = refl; rises = round_rises; stable = round_stable }
