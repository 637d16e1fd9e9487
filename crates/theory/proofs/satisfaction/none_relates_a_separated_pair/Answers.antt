use Rattle.std.proofs.Common.{refl}
use Rattle.theory.proofs.Formulas.{bisimilar_formulas, separated_unrelated}
use Rattle.theory.proofs.satisfaction.none_relates_a_separated_pair.Goals as goal

pub returns : goal.returns
returns g c = record { value = refl; same = bisimilar_formulas g.R.Relation.relates; unrelated = separated_unrelated g.R.Relation.relates }
