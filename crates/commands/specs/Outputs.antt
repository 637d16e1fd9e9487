-- What an output holds.
use Rattle.std.specs.Prelude.{◌≡◌, ℕ, List, ◌++◌, take}
use Rattle.commands.specs.declared.output.Output.{Output}

abbrev pub written : Output → List ℕ
written x = take x.used x.bytes

-- the output is this text, cut off at 32 bytes
abbrev pub Holds : Output → List ℕ → Type 0
Holds x text = written x ≡ take 32 text

-- this text was written behind what stood there
abbrev pub Adds : Output → List ℕ → Output → Type 0
Adds x text x' = Holds x' (written x ++ text)
