-- What a shelf stands for.
use Rattle.std.specs.Prelude.{◌≡◌, ℕ, List, Some, None, Option, slice_index_or}
use Rattle.lts.specs.Layout.{Procedure, Sound, stored}
use Rattle.lts.specs.Meaning.{Meaning}
use Rattle.accounts.specs.Account.{Alike, Filled, Account}
use Rattle.accounts.specs.Calls.{Event, Run}
use Rattle.shelves.specs.declared.row.Row.{Row}

abbrev pub stored_if : Option Procedure → Option Meaning
stored_if None = None
stored_if (Some p) = Some (stored p)

-- a row by its meanings
abbrev pub filled : Row → Filled
filled r = record { baseline = stored r.baseline; force = stored r.force; pending = stored_if r.pending; latest = r.latest }

abbrev pub row_account : Option Row → Option Filled
row_account None = None
row_account (Some r) = Some (filled r)

-- the account of a shelf with a number, rows and so many claims
abbrev pub account : ℕ → List (Option Row) → ℕ → Account
account n rows made = record { number = n; slots = λ s. row_account (slice_index_or rows s None); made = made }

-- a procedure that is alike to the baseline, and can be viewed
abbrev pub Bound : Procedure → Procedure → Type 0
Bound baseline p = Sound p × Alike (stored baseline) (stored p)

abbrev pub BoundIf : Procedure → Option Procedure → Type 0
BoundIf baseline None = Unit {0}
BoundIf baseline (Some p) = Bound baseline p

-- a claim stands only while a procedure is pending
abbrev pub Claimable : Option Procedure → Option ℕ → Type 0
Claimable None None = Unit {0}
Claimable None (Some k) = ⊥
Claimable (Some p) k = Unit {0}

-- what every row of a shelf keeps
pub record Keeps (r : Row) : Type 0 where
  pub base : Sound r.baseline
  pub force : Bound r.baseline r.force
  pub pending : BoundIf r.baseline r.pending
  pub claim : Claimable r.pending r.latest

abbrev pub AllKept : List (Option Row) → Type 0
AllKept rows = (s : ℕ) (r : Row) → slice_index_or rows s None ≡ Some r → Keeps r

-- some list of calls on a new shelf leads here
abbrev pub Reached : ℕ → List (Option Row) → ℕ → Type 0
Reached n rows made = (es : List Event) × Run n es (account n rows made)
