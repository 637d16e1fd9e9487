use Rattle.std.proofs.Common.{refl}
use Rattle.console.proofs.OneAnswer.{one_answer, one_state}
use Rattle.console.proofs.theorem.lines_determine_the_console.Goals as goal

pub returns : goal.returns
returns c = record { value = refl; answer = one_answer; state = one_state }
