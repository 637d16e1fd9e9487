use Rattle.std.proofs.Common.{refl}
use Rattle.theory.proofs.Joining.{joined_related}
use Rattle.theory.proofs.bisimilarity.related_as_in_the_joined_procedure.Goals as goal

pub returns : goal.returns
returns c = record { value = refl; joined = joined_related }
