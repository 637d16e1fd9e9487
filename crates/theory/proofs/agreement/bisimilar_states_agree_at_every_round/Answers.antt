use Rattle.std.proofs.Common.{refl}
use Rattle.theory.proofs.Rounds.{bisimilar_agree}
use Rattle.theory.proofs.agreement.bisimilar_states_agree_at_every_round.Goals as goal

pub returns : goal.returns
returns g c = record { value = refl; agree = bisimilar_agree g.R.Relation.relates }
