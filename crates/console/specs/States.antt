-- What a console holds between two lines.
use Rattle.std.specs.Prelude.{ℕ, List}
use Rattle.lts.specs.Map.{identity}
use Rattle.accounts.specs.Account.{Account, new}

-- the account of its shelf, and what each action of later terms stands for
pub record State : Type 0 where
  pub account : Account
  pub entries : List ℕ

abbrev pub state : Account → List ℕ → State
state a entries = record { account = a; entries = entries }

-- shelf 0, with empty slots and no claim; each action stands for itself
abbrev pub start : State
start = state (new 0) identity
