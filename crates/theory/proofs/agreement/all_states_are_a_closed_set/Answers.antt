use Rattle.std.proofs.Common.{refl}
use Rattle.theory.proofs.Relations.{lawful_inside}
use Rattle.theory.proofs.Stability.{all_closed, all_counted}
use Rattle.theory.proofs.agreement.all_states_are_a_closed_set.Goals as goal

pub returns : goal.returns
returns c = record { value = refl; lawful = lawful_inside; closed = all_closed; counted = all_counted }
