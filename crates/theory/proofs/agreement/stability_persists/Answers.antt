use Rattle.std.proofs.Common.{refl}
use Rattle.theory.proofs.Rounds.{stable_persists, stable_same}
use Rattle.theory.proofs.agreement.stability_persists.Goals as goal

pub returns : goal.returns
returns c = record { value = refl; persists = stable_persists; same = stable_same }
