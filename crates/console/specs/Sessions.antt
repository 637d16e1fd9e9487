-- Lines typed one after another.
use Rattle.std.specs.Prelude.{◌≡◌, ℕ, List, [], ◌∷◌, ◌++◌, Some}
use Rattle.lts.specs.Meaning.{Meaning}
use Rattle.accounts.specs.Account.{Account, Filled, Alike}
use Rattle.accounts.specs.Calls.{Event, LawfulCall}
use Rattle.accounts.specs.Law.{first_filed}
use Rattle.console.specs.Handling.{Handles}
use Rattle.console.specs.States.{State, state, start}

-- what every source keeps, of each call
abbrev pub LawfulCalls : List Event → Type 0
LawfulCalls [] = Unit {0}
LawfulCalls (e ∷ es) = LawfulCall e.call × LawfulCalls es

-- These lines, typed into a new console, make these calls on its shelf and lead to the state; the latest first.
pub data Session : List (List ℕ) → List Event → State → Type 0 where
  none : Session [] [] start
  more : {lines : List (List ℕ)} {line out : List ℕ} {es calls : List Event} {x x' : State} → Session lines es x → Handles x line calls out x' → LawfulCalls calls → Session (line ∷ lines) (calls ++ es) x'

-- some lines lead here
abbrev pub Reached : Account → List ℕ → Type 0
Reached a entries = (lines : List (List ℕ)) × (es : List Event) × Session lines es (state a entries)

-- what is in force in a slot is alike to the procedure that was first filed there
abbrev pub Stands : List Event → Account → Type 0
Stands es a = (s : ℕ) (x : Filled) → a.slots s ≡ Some x → (b : Meaning) × (first_filed es s ≡ Some b) × Alike b x.force
