use Rattle.std.proofs.Common.{refl}
use Rattle.accounts.proofs.Lasting.{lasting}
use Rattle.accounts.proofs.every_run_keeps_the_law.Goals as goal

pub returns : goal.returns
returns c = record { value = refl; lasting = lasting }
