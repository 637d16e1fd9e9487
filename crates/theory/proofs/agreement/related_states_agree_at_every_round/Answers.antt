use Rattle.std.proofs.Common.{refl}
use Rattle.theory.proofs.Rounds.{related_agree}
use Rattle.theory.proofs.agreement.related_states_agree_at_every_round.Goals as goal

pub returns : goal.returns
returns c = record { value = refl; agree = related_agree }
