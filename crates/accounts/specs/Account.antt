-- The account of a shelf: what each slot holds by its meaning, and the claims.
use Rattle.std.specs.Prelude.{ℕ, ◌+◌, ◌≤◌, cond, Some, None, Option, ◌==◌}
use Rattle.lts.specs.Meaning.{Meaning}
use Rattle.theory.specs.Bisimulation.{Related}
use Rattle.theory.specs.Formulas.{Formula, depth, Tells, Separates}

-- some bisimulation relates the starts of p and q
abbrev pub Alike : Meaning → Meaning → Type 0
Alike p q = Related p q 0 0

-- f holds at the start of p and fails at that of q, and every formula that separates the two nests at least as many steps
abbrev pub Least : Meaning → Meaning → Formula → Type 0
Least p q f = Tells p q 0 0 f × ((g : Formula) → Separates p q 0 0 g → depth f ≤ depth g)

-- What a filled slot holds: the procedure first filed there, the one in force, perhaps a pending one, and the number of its
-- latest claim, which ends with a release or a withdrawal.
pub record Filled : Type 0 where
  pub baseline : Meaning
  pub force : Meaning
  pub pending : Option Meaning
  pub latest : Option ℕ

-- The shelf's number, its slots, and how many claims were made.
pub record Account : Type 0 where
  pub number : ℕ
  pub slots : ℕ → Option Filled
  pub made : ℕ

-- a new shelf: empty slots and no claim
abbrev pub new : ℕ → Account
new n = record { number = n; slots = λ _. None; made = 0 }

-- one slot changed, and no other
abbrev pub with_slot : Account → ℕ → Filled → Account
with_slot a s x = record { number = a.number; slots = λ t. cond (t == s) (Some x) (a.slots t); made = a.made }

abbrev pub fresh : Meaning → Filled
fresh m = record { baseline = m; force = m; pending = None; latest = None }

abbrev pub with_pending : Filled → Meaning → Filled
with_pending x m = record { baseline = x.baseline; force = x.force; pending = Some m; latest = x.latest }

abbrev pub with_claim : Filled → ℕ → Filled
with_claim x k = record { baseline = x.baseline; force = x.force; pending = x.pending; latest = Some k }

abbrev pub released : Filled → Meaning → Filled
released x m = record { baseline = x.baseline; force = m; pending = None; latest = None }

abbrev pub withdrawn : Filled → Filled
withdrawn x = record { baseline = x.baseline; force = x.force; pending = None; latest = None }

-- one claim more
abbrev pub one_made : Account → Account
one_made a = record { number = a.number; slots = a.slots; made = a.made + 1 }
