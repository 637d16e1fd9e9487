-- The law over all runs of calls.
use Rattle.std.specs.Prelude.{◌≡◌, ℕ, ◌+◌, cond, List, [], ◌∷◌, ◌++◌, Some, None, Option, ◌==◌}
use Rattle.lts.specs.Meaning.{Meaning}
use Rattle.accounts.specs.Account.{Alike, Least, Filled, Account}
use Rattle.accounts.specs.Calls.{Call, file, submit, claim, release, withdraw, Answer, accepted, called_same, called_different, cleared, refused, refusal, Event, Run}

-- what a call filed in slot s, if it is a filing there that was accepted
abbrev pub filed : Call → Answer → ℕ → Option Meaning
filed (file s m) accepted t = cond (s == t) (Some m) None
filed (file s m) called_same t = None
filed (file s m) (called_different f) t = None
filed (file s m) (cleared h i k) t = None
filed (file s m) (refused n) t = None
filed (submit s m l k) r t = None
filed (claim s) r t = None
filed (release h s k) r t = None
filed (withdraw h s k) r t = None

abbrev pub or_else : Option Meaning → Option Meaning → Option Meaning
or_else None later = later
or_else (Some m) later = Some m

-- the procedure first filed in slot s
abbrev pub first_filed : List Event → ℕ → Option Meaning
first_filed [] s = None
first_filed (e ∷ es) s = or_else (first_filed es s) (filed e.call e.answer s)

-- A submission of m was called same, and m is alike to b; or different, with a formula that shows it with the least depth.
abbrev pub Called : Meaning → Meaning → Answer → Type 0
Called b m accepted = ⊥
Called b m called_same = Alike b m
Called b m (called_different f) = (Alike b m → ⊥) × Least b m f
Called b m (cleared h i k) = ⊥
Called b m (refused n) = ⊥

-- Of every list of calls on one new shelf with number n, the latest first:
pub record Law (n : ℕ) (es : List Event) : Type 0 where
  -- each claim that the account accepts handed out a clearance with the numbers that the account gives
  pub claims : (after before : List Event) (s : ℕ) (r : Answer) (a : Account) → es ≡ after ++ record { call = claim s; answer = r } ∷ before → Run n before a → refusal a (claim s) ≡ None → r ≡ cleared n s (a.made + 1)
  -- what is in force is alike to the procedure first filed there
  pub force : (a : Account) (s : ℕ) (x : Filled) → Run n es a → a.slots s ≡ Some x → (b : Meaning) × (first_filed es s ≡ Some b) × Alike b x.force
  -- each submission that passes the other rows was called same exactly where it is alike to the procedure first filed there,
  -- and else different, with a formula of the least depth
  pub verdicts : (after before : List Event) (s : ℕ) (m : Meaning) (l k : ℕ) (r : Answer) (a : Account) → es ≡ after ++ record { call = submit s m l k; answer = r } ∷ before → Run n before a → refusal a (submit s m l k) ≡ None → (b : Meaning) × (first_filed before s ≡ Some b) × Called b m r

-- The calls alone determine the account: two runs of the same calls lead to the same one.
abbrev pub calls_of : List Event → List Call
calls_of [] = []
calls_of (e ∷ es) = e.call ∷ calls_of es

abbrev pub Determined : Type 0
Determined = (n : ℕ) (es es' : List Event) (a a' : Account) → Run n es a → Run n es' a' → calls_of es ≡ calls_of es' → a ≡ a'

-- Every run keeps the law.
abbrev pub Lasting : Type 0
Lasting = (n : ℕ) (es : List Event) (a : Account) → Run n es a → Law n es
