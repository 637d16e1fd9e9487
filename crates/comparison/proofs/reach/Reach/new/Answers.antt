use Rattle.std.proofs.Common.{ℕ, arith}
use lib.ListN.{length-replicate}
use Rattle.comparison.proofs.Tables.{blank}
use Rattle.comparison.proofs.reach.Reach.new.Goals as goal

pub invariant_of-result : goal.invariant_of-result
invariant_of-result c = record { size = length-replicate {A = ℕ} 16384 0; low = λ i. rw (blank 16384 i) (omega arith) }
