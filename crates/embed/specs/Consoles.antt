-- A whole input typed into a new console.
use Rattle.std.specs.Prelude.{◌≡◌, ℕ, ◌+◌, ◌<◌, ◌≤◌, List, [], ◌∷◌, ◌++◌, length, drop, codes}
use Rattle.lines.specs.Lines.{first_line, later_lines}
use Rattle.accounts.specs.Calls.{Event}
use Rattle.console.specs.Handling.{Handles}
use Rattle.console.specs.States.{State, start}
use Rattle.embed.specs.declared.typing.Session.{Session}

-- The input begins with these lines, and `rest` follows. A line ends in byte 0a, which the last may lack.
pub data Begins : List ℕ → List (List ℕ) → List ℕ → Type 0 where
  none : {input : List ℕ} → Begins input [] input
  more : {input rest : List ℕ} {lines : List (List ℕ)} → Begins input lines rest → 0 < length rest → Begins input (lines ++ first_line rest ∷ []) (later_lines rest)

-- These lines, typed into a new console, print these bytes and lead to the state.
pub data Prints : List (List ℕ) → List ℕ → State → Type 0 where
  none : Prints [] [] start
  more : {lines : List (List ℕ)} {bytes line out : List ℕ} {calls : List Event} {x x' : State} → Prints lines bytes x → Handles x line calls out x' → Prints (lines ++ line ∷ []) (bytes ++ (out ++ 10 ∷ [])) x'

-- So many lines of the input were typed, and what they print stands in front of the places, of which the others are as they
-- were.
pub record Typed (input places rest : List ℕ) (written : ℕ) (x : State) (places' : List ℕ) : Type 0 where
  pub lines : List (List ℕ)
  pub bytes : List ℕ
  pub begins : Begins input lines rest
  pub prints : Prints lines bytes x
  pub fits : written ≤ length places
  pub counted : written ≡ length bytes
  pub placed : places' ≡ bytes ++ drop written places

-- Lines were typed until none was left, or until fewer than 32 places were.
pub record Ran (input places : List ℕ) (answer : Session) (places' : List ℕ) : Type 0 where
  pub rest : List ℕ
  pub state : State
  pub typed : Typed input places rest answer.written state places'
  pub read : answer.read + length rest ≡ length input
  pub stopped : 0 < length rest → length places < answer.written + 32

-- the one line that an input of over 32,768 bytes prints, where there are 32 places
pub record TooLong (input places : List ℕ) (answer : Session) (places' : List ℕ) : Type 0 where
  pub told : 32 ≤ length places → (answer ≡ record { read = length input; written = 11 }) × (places' ≡ codes "refused 41\n" ++ drop 11 places)
  pub untold : length places < 32 → (answer ≡ record { read = 0; written = 0 }) × (places' ≡ places)

pub record Answered (input places : List ℕ) (answer : Session) (places' : List ℕ) : Type 0 where
  pub short : length input ≤ 32768 → Ran input places answer places'
  pub long : 32768 < length input → TooLong input places answer places'
