use Rattle.std.proofs.Common.{refl}
use Rattle.theory.proofs.Joining.{joined_left, joined_right, joined_separates}
use Rattle.theory.proofs.satisfaction.formulas_hold_as_in_the_joined_procedure.Goals as goal

pub returns : goal.returns
returns c = record { value = refl; left = joined_left; right = joined_right; separates = joined_separates }
