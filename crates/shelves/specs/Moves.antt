-- What a call on a shelf promises.
use Rattle.std.specs.Prelude.{◌≡◌, ◌⊎◌, ℕ, ◌+◌, ◌<◌, ◌≤◌, Bool, true, false, List, ◌∷◌, take, is_some, Some, None, Ok, Err, Option, Result, slice_index_or}
use Rattle.lts.specs.Meaning.{Meaning}
use Rattle.accounts.specs.Account.{Account, Filled, with_slot, fresh}
use Rattle.accounts.specs.Calls.{Call, file, submit, claim, release, withdraw, clears, Answer, accepted, called_same, called_different, cleared, refused, refusal, Event, Does, Run}
use Rattle.accounts.specs.Law.{Law}
use Rattle.shelves.specs.Faults.{number_of}
use Rattle.shelves.specs.Standing.{account, filled, row_account, Keeps}
use Rattle.shelves.specs.declared.clearance.Clearance.{Clearance}
use Rattle.shelves.specs.declared.fault.ShelfFault.{ShelfFault}
use Rattle.shelves.specs.declared.fault.ShelfFault.TheVariants.{Slot, Taken, Empty, Pending, Steps, Room, Different as Differs, Nothing, Claims, Clearance as Uncleared}
use Rattle.comparison.specs.Compared.{Short, Reported}
use Rattle.comparison.specs.declared.report.Report.{Report}
use Rattle.comparison.specs.declared.report.Verdict.{Verdict}
use Rattle.comparison.specs.declared.report.Verdict.TheVariants.{Same, Different}
use Rattle.formulas.specs.Lines.{formula}
use Rattle.formulas.specs.declared.line.Line.{Line}
use Rattle.lts.specs.Copying.{total}
use Rattle.lts.specs.Layout.{Procedure, Sound, stored}
use Rattle.theory.specs.Formulas.{Formula, T}
use Rattle.shelves.specs.declared.row.Row.{Row}
use Rattle.shelves.specs.declared.shelf.Shelf.{Shelf}

abbrev pub account_of : Shelf → Account
account_of x = account x.number x.slots.rows x.claims

-- The call did what the account's rules say, from account a to account a'; and for every list of calls that leads to a, the
-- list with this call added leads to a' and has the whole law.
pub record Moved (a : Account) (c : Call) (r : Answer) (a' : Account) : Type 0 where
  pub does : Does a c r a'
  pub law : (es : List Event) → Run a.number es a → Run a.number (record { call = c; answer = r } ∷ es) a' × Law a.number (record { call = c; answer = r } ∷ es)

-- the answer of a call that is accepted or refused
abbrev pub answer : Result (Unit {0}) ShelfFault → Answer
answer (Ok done) = accepted
answer (Err f) = refused (number_of f)

-- the answer of a claim
abbrev pub claim_answer : Result Clearance ShelfFault → Answer
claim_answer (Ok c) = cleared c.numbers.shelf c.numbers.slot c.numbers.claim
claim_answer (Err f) = refused (number_of f)

-- a row with a new claim
abbrev pub claimed : Row → ℕ → Row
claimed r k = record { baseline = r.baseline; force = r.force; pending = r.pending; latest = Some k }

-- the one fault that carries a report
abbrev pub reports : ShelfFault → Bool
reports Slot = false
reports Taken = false
reports Empty = false
reports Pending = false
reports Steps = false
reports Room = false
reports (Differs report) = true
reports Nothing = false
reports Claims = false
reports Uncleared = false

-- what is in a slot
abbrev pub Placed : List (Option Row) → ℕ → Result (Option Row) ShelfFault → Type 0
Placed rows s (Ok o) = (s < 8) × (slice_index_or rows s None ≡ o)
Placed rows s (Err f) = (7 < s) × (f ≡ Slot)

-- the row of a slot that is taken, or the refusal of what needs one
abbrev pub Found : Account → List (Option Row) → ℕ → Result Row ShelfFault → Type 0
Found a rows s (Ok row) = (s < 8) × (slice_index_or rows s None ≡ Some row)
Found a rows s (Err f) = (a.slots s ≡ None) × (reports f ≡ false) × ((m : Meaning) (l k : ℕ) → refusal a (submit s m l k) ≡ Some (number_of f)) × (refusal a (claim s) ≡ Some (number_of f))

-- what filing m in slot s makes, or its refusal
abbrev pub Filing : Account → ℕ → Meaning → Result Row ShelfFault → Type 0
Filing a s m (Ok row) = (refusal a (file s m) ≡ None) × (s < 8) × Keeps row × (row_account (Some row) ≡ Some (fresh m))
Filing a s m (Err f) = refusal a (file s m) ≡ Some (number_of f)

-- what a claim in slot s makes of its row, or its refusal
abbrev pub Claiming : Account → List (Option Row) → ℕ → Result Row ShelfFault → Type 0
Claiming a rows s (Ok row) = (refusal a (claim s) ≡ None) × (s < 8) × (a.made < 65535) × ((old : Row) × (slice_index_or rows s None ≡ Some old) × (is_some old.pending ≡ true) × (row ≡ claimed old (a.made + 1)))
Claiming a rows s (Err f) = refusal a (claim s) ≡ Some (number_of f)

-- a clearance that was spent
abbrev pub used_up : Clearance → Clearance
used_up c = record { numbers = c.numbers; spent = true }

abbrev pub release_by : Clearance → Call
release_by c = release c.numbers.shelf c.numbers.slot c.numbers.claim

abbrev pub withdraw_by : Clearance → Call
withdraw_by c = withdraw c.numbers.shelf c.numbers.slot c.numbers.claim

-- whether the shelf clears it
abbrev pub cleared_by : Shelf → Clearance → Bool
cleared_by x c = clears (account_of x) c.numbers.shelf c.numbers.slot c.numbers.claim

-- the row of a clearance that is the slot's latest, with its pending procedure
abbrev pub Cleared : Shelf → Clearance → Option (Row × Procedure) → Type 0
Cleared x c None = cleared_by x c ≡ false
Cleared x c (Some v) = (cleared_by x c ≡ true) × (c.numbers.slot < 8) × (slice_index_or x.slots.rows c.numbers.slot None ≡ Some v.0) × (v.0.pending ≡ Some v.1)

-- the row with its pending procedure in force, and without what was pending and its claim
abbrev pub forced : Row → Procedure → Row
forced r p = record { baseline = r.baseline; force = p; pending = r.pending; latest = r.latest }

abbrev pub settled : Row → Row
settled r = record { baseline = r.baseline; force = r.force; pending = None; latest = None }

-- a row is settled with its pending procedure in force, or with that which was
abbrev pub Settles : (Row → Procedure → Row → Type 0) → Type 0
Settles post = (r r' : Row) (p : Procedure) → post r p r' → (r' ≡ forced r p) ⊎ (r' ≡ r)

-- The row of a clearance was settled, and no other changed; or the clearance isn't the slot's latest, and nothing changed.
abbrev pub Spent : (Row → Procedure → Row → Type 0) → Shelf → Clearance → Result (Unit {0}) ShelfFault → Shelf → Type 0
Spent post x c (Ok done) x' = (v : Row × Procedure) × (r : Row) × Cleared x c (Some v) × post v.0 v.1 r × (account_of x' ≡ with_slot (account_of x) c.numbers.slot (filled (settled r)))
Spent post x c (Err f) x' = Cleared x c None × (f ≡ Uncleared) × (account_of x' ≡ account_of x)

-- the formula that a verdict names among the lines
abbrev pub told : Verdict → List Line → Formula
told Same lines = T
told (Different n i d) lines = formula (take n lines) i

-- what a refused submission answers, with the lines that it leaves
abbrev pub fault_answer : ShelfFault → List Line → Answer
fault_answer Slot lines = refused 20
fault_answer Taken lines = refused 21
fault_answer Empty lines = refused 22
fault_answer Pending lines = refused 23
fault_answer Steps lines = refused 24
fault_answer Room lines = refused 25
fault_answer (Differs report) lines = called_different (told report.verdict lines)
fault_answer Nothing lines = refused 27
fault_answer Claims lines = refused 28
fault_answer Uncleared lines = refused 29

-- the answer of a submission
abbrev pub submit_answer : Result Report ShelfFault → List Line → Answer
submit_answer (Ok report) lines = called_same
submit_answer (Err f) lines = fault_answer f lines

-- an open slot's row and the copy of a source that may be compared with it; or the refusal, whatever room there is
abbrev pub Admitted : Account → List (Option Row) → ℕ → Meaning → Result (Row × Procedure) ShelfFault → Type 0
Admitted a rows s m (Ok v) = (s < 8) × (slice_index_or rows s None ≡ Some v.0) × (is_some v.0.pending ≡ false) × (total m ≤ 512) × Sound v.1 × (stored v.1 ≡ m)
Admitted a rows s m (Err f) = ((l k : ℕ) → refusal a (submit s m l k) ≡ Some (number_of f)) × (reports f ≡ false)

-- the comparison of a procedure in force with a source, or too few places for it
abbrev pub Weighing : Meaning → Meaning → List Line → List ℕ → Result Report ShelfFault → List Line → List ℕ → Type 0
Weighing p m lines classes (Ok report) lines' classes' = Reported p m lines classes report lines' classes'
Weighing p m lines classes (Err f) lines' classes' = (f ≡ Room) × Short (p.count + m.count) lines classes × (lines' ≡ lines) × (classes' ≡ classes)

-- What a submission reports, and what it leaves in the caller's buffers: the comparison of the procedure in force with the
-- source where it was called same or different, and else the buffers as they were.
abbrev pub Weighed : Account → ℕ → Meaning → List Line → List ℕ → Report → List Line → List ℕ → Type 0
Weighed a s m lines classes report lines' classes' = (x : Filled) × (a.slots s ≡ Some x) × Reported x.force m lines classes report lines' classes'

abbrev pub Unweighed : ShelfFault → Account → ℕ → Meaning → List Line → List ℕ → List Line → List ℕ → Type 0
Unweighed Slot a s m lines classes lines' classes' = (lines' ≡ lines) × (classes' ≡ classes)
Unweighed Taken a s m lines classes lines' classes' = (lines' ≡ lines) × (classes' ≡ classes)
Unweighed Empty a s m lines classes lines' classes' = (lines' ≡ lines) × (classes' ≡ classes)
Unweighed Pending a s m lines classes lines' classes' = (lines' ≡ lines) × (classes' ≡ classes)
Unweighed Steps a s m lines classes lines' classes' = (lines' ≡ lines) × (classes' ≡ classes)
Unweighed Room a s m lines classes lines' classes' = (lines' ≡ lines) × (classes' ≡ classes)
Unweighed (Differs report) a s m lines classes lines' classes' = Weighed a s m lines classes report lines' classes'
Unweighed Nothing a s m lines classes lines' classes' = (lines' ≡ lines) × (classes' ≡ classes)
Unweighed Claims a s m lines classes lines' classes' = (lines' ≡ lines) × (classes' ≡ classes)
Unweighed Uncleared a s m lines classes lines' classes' = (lines' ≡ lines) × (classes' ≡ classes)

abbrev pub Submitted : Account → ℕ → Meaning → List Line → List ℕ → Result Report ShelfFault → List Line → List ℕ → Type 0
Submitted a s m lines classes (Ok report) lines' classes' = Weighed a s m lines classes report lines' classes'
Submitted a s m lines classes (Err f) lines' classes' = Unweighed f a s m lines classes lines' classes'
