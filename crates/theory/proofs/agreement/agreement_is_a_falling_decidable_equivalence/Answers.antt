use Rattle.std.proofs.Common.{refl}
use Rattle.theory.proofs.Rounds.{agree_falls, agree_reflexive, agree_symmetric, agree_transitive, agree_decided}
use Rattle.theory.proofs.agreement.agreement_is_a_falling_decidable_equivalence.Goals as goal

pub returns : goal.returns
returns c = record { value = refl; falls = agree_falls; reflexive = agree_reflexive; symmetric = agree_symmetric; transitive = agree_transitive; decided = agree_decided }
