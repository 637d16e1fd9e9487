-- The bounds of a kind of source.
use Rattle.std.specs.Prelude.{ℕ, ◌≤◌}
use Rattle.std.proofs.Common.{arith}
use Rattle.lts.specs.Meaning.{Meaning, Lawful}

-- bounds with room for more states
pub wider : {n most : ℕ} {m : Meaning} → n ≤ most → Lawful n m → Lawful most m
wider h l = let f = l.few in record { some = l.some; few = omega arith; no_ends = l.no_ends; no_steps = l.no_steps; short = l.short; acts = l.acts; aims = l.aims }

-- those of one procedure, of a kind whose bound is `most`
pub narrow : {n most : ℕ} {m : Meaning} → m.count ≤ most → most ≤ 128 → Lawful n m → Lawful 128 m
narrow h b l = record { some = l.some; few = omega arith; no_ends = l.no_ends; no_steps = l.no_steps; short = l.short; acts = l.acts; aims = l.aims }
