use Rattle.std.proofs.Common.{ℕ, eqb, ap, arith}
use lib.ListN.{length-replicate}
use Rattle.comparison.proofs.Tables.{blank}
use Rattle.comparison.proofs.reach.Reach.clear.Goals as goal

pub invariant_of-self-2 : goal.invariant_of-self-2
invariant_of-self-2 c = record { size = length-replicate {A = ℕ} 16384 0; low = λ i. rw (blank 16384 i) (omega arith) }

pub returns : goal.returns
returns c = λ i. ap (λ (v : ℕ). eqb v 1) (blank 16384 i)
