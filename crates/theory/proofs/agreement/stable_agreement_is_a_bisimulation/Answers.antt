use Rattle.std.proofs.Common.{refl}
use Rattle.theory.proofs.Rounds.{stable_bisimulation, stable_related}
use Rattle.theory.proofs.agreement.stable_agreement_is_a_bisimulation.Goals as goal

pub returns : goal.returns
returns c = record { value = refl; bisimulation = stable_bisimulation; related = stable_related }
