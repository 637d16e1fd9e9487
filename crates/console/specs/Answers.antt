-- What a console promises of a line.
use Rattle.std.specs.Prelude.{◌≡◌, ℕ, List, [], ◌∷◌, ◌++◌, Result}
use Rattle.accounts.specs.Account.{Account}
use Rattle.accounts.specs.Calls.{Event}
use Rattle.accounts.specs.Law.{Law}
use Rattle.shelves.specs.Moves.{account_of}
use Rattle.commands.specs.Form.{Request, Form}
use Rattle.commands.specs.Texts.{reply_text}
use Rattle.commands.specs.declared.fault.ConsoleFault.{ConsoleFault}
use Rattle.commands.specs.declared.outcome.Outcome.{Outcome}
use Rattle.commands.specs.declared.verb.Verb.{Verb}
use Rattle.console.specs.Handling.{Handles}
use Rattle.console.specs.Sessions.{LawfulCalls, Session, Stands}
use Rattle.console.specs.States.{State, state}
use Rattle.console.specs.declared.console.Console.{Console}

abbrev pub state_of : Console → State
state_of c = state (account_of c.shelf) c.map.entries

-- The line was handled, and what it prints was written with a line feed behind it. For every list of lines that leads to the
-- console as it was, the list with this line added leads to the console as it is; the law holds of all calls that were made;
-- and so what is in force in a slot is alike to the procedure that was first filed there.
pub record Answered (x : State) (line bytes : List ℕ) (x' : State) : Type 0 where
  pub out : List ℕ
  pub calls : List Event
  pub handled : Handles x line calls out x'
  pub written : bytes ≡ out ++ 10 ∷ []
  pub session : (lines : List (List ℕ)) (es : List Event) → Session lines es x → Session (line ∷ lines) (calls ++ es) x' × Law 0 (calls ++ es) × Stands (calls ++ es) x'.account

-- a line was handled by lawful calls
pub record Handled (x : State) (line out : List ℕ) (x' : State) : Type 0 where
  pub calls : List Event
  pub handles : Handles x line calls out x'
  pub lawful : LawfulCalls calls

-- any line that asks for this is handled so
abbrev pub Did : State → Request → Verb → ℕ → Result Outcome ConsoleFault → Account → Type 0
Did x asked verb slot r a = (line : List ℕ) → Form line asked → Handled x line (reply_text verb slot r) (state a x.entries)
