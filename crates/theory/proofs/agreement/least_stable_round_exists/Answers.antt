use Rattle.std.proofs.Common.{refl}
use Rattle.theory.proofs.Stability.{rounds_exist, rounds_determined}
use Rattle.theory.proofs.agreement.least_stable_round_exists.Goals as goal

pub returns : goal.returns
returns c = record { value = refl; exists = rounds_exist; determined = rounds_determined }
