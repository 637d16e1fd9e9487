use Rattle.std.proofs.Common.{refl}
use Rattle.accounts.proofs.Determined.{determined}
use Rattle.accounts.proofs.calls_determine_the_account.Goals as goal

pub returns : goal.returns
returns c = record { value = refl; determined = determined }
