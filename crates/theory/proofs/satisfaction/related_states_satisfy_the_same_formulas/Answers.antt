use Rattle.std.proofs.Common.{refl}
use Rattle.theory.proofs.Formulas.{related_formulas}
use Rattle.theory.proofs.satisfaction.related_states_satisfy_the_same_formulas.Goals as goal

pub returns : goal.returns
returns c = record { value = refl; same = related_formulas }
