use Rattle.std.proofs.Common.{refl}
use Rattle.pairs.proofs.Table.{ten_pairs}
use Rattle.pairs.proofs.ten_pairs_hold.Goals as goal

pub returns : goal.returns
returns c = record { value = refl; pairs = ten_pairs }
