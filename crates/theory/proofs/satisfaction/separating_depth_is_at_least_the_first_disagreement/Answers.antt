use Rattle.std.proofs.Common.{refl}
use Rattle.theory.proofs.Formulas.{separated_disagree, separated_depth}
use Rattle.theory.proofs.satisfaction.separating_depth_is_at_least_the_first_disagreement.Goals as goal

pub returns : goal.returns
returns c = record { value = refl; disagree = separated_disagree; depth = separated_depth }
