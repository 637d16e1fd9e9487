-- A list of calls run on a new shelf.
use Rattle.std.specs.Prelude.{◌≡◌, ℕ, ◌<◌, ◌≤◌, min, false, List, map, reverse, length, take, drop, Some, None, Ok, Err, Option, Result}
use Rattle.lts.specs.Meaning.{Meaning}
use Rattle.theory.specs.Formulas.{depth}
use Rattle.accounts.specs.Account.{Account}
use Rattle.accounts.specs.Calls.{Call, file, submit, claim, release, withdraw, Answer, accepted, called_same, called_different, cleared, refused, Event, Run}
use Rattle.accounts.specs.Law.{Law, calls_of}
use Rattle.refusals.specs.declared.Refusal.{Refusal}
use Rattle.shelves.specs.Faults.{shelf_refusal}
use Rattle.shelves.specs.Moves.{account_of, Moved}
use Rattle.shelves.specs.declared.call.Numbers.{Numbers}
use Rattle.shelves.specs.declared.call.Outcome.{Outcome}
use Rattle.shelves.specs.declared.call.Outcome.TheVariants.{Accepted, Same as Agreed, Different as Separated, Cleared}
use Rattle.shelves.specs.declared.call.ShelfCall.{ShelfCall}
use Rattle.shelves.specs.declared.call.ShelfCall.TheVariants.{File, Submit, Claim, Release, Withdraw}
use Rattle.comparison.specs.declared.report.Verdict.{Verdict}
use Rattle.comparison.specs.declared.report.Verdict.TheVariants.{Same, Different}
use Rattle.shelves.specs.declared.clearance.Clearance.{Clearance}
use Rattle.shelves.specs.declared.fault.ShelfFault.{ShelfFault}
use Rattle.shelves.specs.declared.fault.ShelfFault.TheVariants.{Slot, Taken, Empty, Pending, Steps, Room, Different as Differs, Nothing, Claims, Clearance as Uncleared}
use Rattle.shelves.specs.declared.shelf.Shelf.{Shelf}

-- The call with its source's meaning. A submission is lent as many places as it names, and no more than any two sources want.
abbrev pub call_of : {S : Type 0} → (S → Meaning) → ShelfCall S → Call
call_of means (File s x) = file s (means x)
call_of means (Submit s x lines classes) = submit s (means x) (min lines 1021) (min classes 256)
call_of means (Claim s) = claim s
call_of means (Release c) = release c.shelf c.slot c.claim
call_of means (Withdraw c) = withdraw c.shelf c.slot c.claim

-- how an answer is told: of a formula its depth, of a refusal all that the shelf's fault tells
abbrev pub outcome_of : Answer → Result Outcome Refusal
outcome_of accepted = Ok Accepted
outcome_of called_same = Ok Agreed
outcome_of (called_different f) = Ok (Separated (depth f))
outcome_of (cleared h s k) = Ok (Cleared (record { shelf = h; slot = s; claim = k }))
outcome_of (refused n) = Err (shelf_refusal n)

-- a clearance that has these numbers and is not spent
abbrev pub clearance_of : Numbers → Clearance
clearance_of c = record { numbers = c; spent = false }

-- how many steps the formula of a verdict nests
abbrev pub depth_of : Verdict → ℕ
depth_of Same = 0
depth_of (Different n i d) = d

-- how a submission is told that is not the same
abbrev pub fault_outcome : ShelfFault → Result Outcome Refusal
fault_outcome (Differs report) = Ok (Separated (depth_of report.verdict))
fault_outcome Slot = Err (shelf_refusal 20)
fault_outcome Taken = Err (shelf_refusal 21)
fault_outcome Empty = Err (shelf_refusal 22)
fault_outcome Pending = Err (shelf_refusal 23)
fault_outcome Steps = Err (shelf_refusal 24)
fault_outcome Room = Err (shelf_refusal 25)
fault_outcome Nothing = Err (shelf_refusal 27)
fault_outcome Claims = Err (shelf_refusal 28)
fault_outcome Uncleared = Err (shelf_refusal 29)

-- one call of a list, with its answer as it is told
pub record Performed (a : Account) (c : Call) (o : Result Outcome Refusal) (a' : Account) : Type 0 where
  pub answer : Answer
  pub moved : Moved a c answer a'
  pub told : o ≡ outcome_of answer

-- how the events of a run are told, in their order; a run has the latest first
abbrev pub outcomes : List Event → List (Result Outcome Refusal)
outcomes es = reverse (map (λ (e : Event). outcome_of e.answer) es)

-- These calls, in their order, lead from a new shelf with number n to account a, and are answered so. The law holds of them.
pub record Follows (n : ℕ) (calls : List Call) (answers : List (Result Outcome Refusal)) (a : Account) : Type 0 where
  pub events : List Event
  pub called : calls_of events ≡ reverse calls
  pub told : outcomes events ≡ answers
  pub run : Run n events a
  pub law : Law n events

-- A run of all calls, with a place for the answer of each; the other places are as they were. Or there are too few places, and
-- nothing was run.
abbrev pub Ran : ℕ → List Call → List (Result Outcome Refusal) → Option Shelf → List (Result Outcome Refusal) → Type 0
Ran n calls places None places' = (length places < length calls) × (places' ≡ places)
Ran n calls places (Some x) places' = (length calls ≤ length places) × Follows n calls (take (length calls) places') (account_of x) × (drop (length calls) places' ≡ drop (length calls) places)
