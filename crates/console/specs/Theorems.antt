-- The lines alone determine what is printed and what a console holds.
use Rattle.std.specs.Prelude.{◌≡◌, ℕ, List}
use Rattle.accounts.specs.Calls.{Event}
use Rattle.console.specs.Handling.{Handles}
use Rattle.console.specs.Sessions.{LawfulCalls, Session}
use Rattle.console.specs.States.{State}

-- from a state that some lines lead to, a line prints one text and leaves one state
abbrev pub OneAnswer : Type 0
OneAnswer = (lines : List (List ℕ)) (es : List Event) (x : State) → Session lines es x → (line out out' : List ℕ) (calls calls' : List Event) (y y' : State) → Handles x line calls out y → LawfulCalls calls → Handles x line calls' out' y' → (out ≡ out') × (y ≡ y')

-- so lines typed into a new console lead to one state
abbrev pub OneState : Type 0
OneState = (lines : List (List ℕ)) (es es' : List Event) (x x' : State) → Session lines es x → Session lines es' x' → x ≡ x'
