-- The five calls on a shelf: what each answers, and the account after it. Both follow from the account and the call alone.
use Rattle.std.specs.Prelude.{◌≡◌, ℕ, ◌+◌, ◌-◌, ◌*◌, Bool, false, cond, ◌&&◌, ◌||◌, List, [], ◌∷◌, is_some, Some, None, Option, ◌==◌, nat_le, nat_lt}
use Rattle.lts.specs.Copying.{total}
use Rattle.lts.specs.Meaning.{Meaning, Lawful}
use Rattle.theory.specs.Formulas.{Formula}
use Rattle.accounts.specs.Account.{Alike, Least, Filled, Account, new, with_slot, fresh, with_pending, with_claim, released, withdrawn, one_made}

-- A call with its arguments. A source is its meaning; a submission also has so many places for lines and for classes; a
-- clearance is its three numbers.
pub data Call : Type 0 where
  file : (slot : ℕ) (source : Meaning) → Call
  submit : (slot : ℕ) (source : Meaning) (lines classes : ℕ) → Call
  claim : (slot : ℕ) → Call
  release : (shelf slot number : ℕ) → Call
  withdraw : (shelf slot number : ℕ) → Call

pub data Answer : Type 0 where
  accepted : Answer
  called_same : Answer
  called_different : Formula → Answer
  cleared : (shelf slot number : ℕ) → Answer
  refused : ℕ → Answer

-- what holds of a slot, by whether it is empty
abbrev pub in_slot : {A : Type 0} → Option Filled → A → (Filled → A) → A
in_slot None empty filled = empty
in_slot (Some x) empty filled = filled x

-- fewer than 4N−3 places for lines or N for classes, N being the number of states of both together
abbrev pub cramped : Meaning → Meaning → ℕ → ℕ → Bool
cramped p q lines classes = nat_lt lines (4 * (p.count + q.count) - 3) || nat_lt classes (p.count + q.count)

-- k is the slot's latest claim
abbrev pub is_latest : Option ℕ → ℕ → Bool
is_latest None k = false
is_latest (Some j) k = j == k

-- the clearance is of this shelf and of the slot's latest claim
abbrev pub clears : Account → ℕ → ℕ → ℕ → Bool
clears a shelf s k = shelf == a.number && in_slot (a.slots s) false (λ x. is_latest x.latest k)

-- The first row that refuses the call, if any. (A submission that passes may still be called different: that is row 26.)
abbrev pub refusal : Account → Call → Option ℕ
refusal a (file s m) = cond (nat_lt 7 s) (Some 20) (cond (is_some (a.slots s)) (Some 21) (cond (nat_lt 512 (total m)) (Some 24) None))
refusal a (submit s m lines classes) = cond (nat_lt 7 s) (Some 20) (in_slot (a.slots s) (Some 22) (λ x. cond (is_some x.pending) (Some 23) (cond (nat_lt 512 (total m)) (Some 24) (cond (cramped x.force m lines classes) (Some 25) None))))
refusal a (claim s) = cond (nat_lt 7 s) (Some 20) (in_slot (a.slots s) (Some 22) (λ x. cond (is_some x.pending) (cond (nat_le 65535 a.made) (Some 28) None) (Some 27)))
refusal a (release shelf s k) = cond (clears a shelf s k) None (Some 29)
refusal a (withdraw shelf s k) = cond (clears a shelf s k) None (Some 29)

-- What a call on account a answers, and the account after it.
pub data Does : Account → Call → Answer → Account → Type 0 where
  refuses : {a : Account} {c : Call} {n : ℕ} → refusal a c ≡ Some n → Does a c (refused n) a
  files : {a : Account} {s : ℕ} {m : Meaning} → refusal a (file s m) ≡ None → Does a (file s m) accepted (with_slot a s (fresh m))
  agrees : {a : Account} {s l k : ℕ} {m : Meaning} {x : Filled} → refusal a (submit s m l k) ≡ None → a.slots s ≡ Some x → Alike x.force m → Does a (submit s m l k) called_same (with_slot a s (with_pending x m))
  differs : {a : Account} {s l k : ℕ} {m : Meaning} {x : Filled} {f : Formula} → refusal a (submit s m l k) ≡ None → a.slots s ≡ Some x → (Alike x.force m → ⊥) → Least x.force m f → Does a (submit s m l k) (called_different f) a
  claims : {a : Account} {s : ℕ} {x : Filled} → refusal a (claim s) ≡ None → a.slots s ≡ Some x → Does a (claim s) (cleared a.number s (a.made + 1)) (with_slot (one_made a) s (with_claim x (a.made + 1)))
  releases : {a : Account} {h s k : ℕ} {x : Filled} {m : Meaning} → refusal a (release h s k) ≡ None → a.slots s ≡ Some x → x.pending ≡ Some m → Does a (release h s k) accepted (with_slot a s (released x m))
  withdraws : {a : Account} {h s k : ℕ} {x : Filled} → refusal a (withdraw h s k) ≡ None → a.slots s ≡ Some x → Does a (withdraw h s k) accepted (with_slot a s (withdrawn x))

-- A call with what it answered.
pub record Event : Type 0 where
  pub call : Call
  pub answer : Answer

-- what every source keeps
abbrev pub LawfulCall : Call → Type 0
LawfulCall (file s m) = Lawful 128 m
LawfulCall (submit s m lines classes) = Lawful 128 m
LawfulCall (claim s) = Unit {0}
LawfulCall (release h s k) = Unit {0}
LawfulCall (withdraw h s k) = Unit {0}

-- The events, the latest first, lead from a new shelf with number n to the account.
pub data Run : ℕ → List Event → Account → Type 0 where
  start : {n : ℕ} → Run n [] (new n)
  more : {n : ℕ} {es : List Event} {a a' : Account} {c : Call} {r : Answer} → Run n es a → LawfulCall c → Does a c r a' → Run n (record { call = c; answer = r } ∷ es) a'
