use Rattle.std.proofs.Common.{refl}
use Rattle.theory.proofs.AnyRelation.{any_related, unrelated}
use Rattle.theory.proofs.bisimilarity.tests_relate_all_that_is_related.Goals as goal

pub returns : goal.returns
returns g c = record { value = refl; related = any_related g.R.Relation.relates; unrelated = unrelated g.R.Relation.relates }
