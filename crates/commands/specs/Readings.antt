-- A line can be read in one way at most.
use Rattle.std.specs.Prelude.{◌≡◌, ℕ, List}
use Rattle.commands.specs.Form.{Request, Form, Misfit}

-- a line asks for one thing at most,
abbrev pub OneRequest : Type 0
OneRequest = (line : List ℕ) (r r' : Request) → Form line r → Form line r' → r ≡ r'

-- leaves the form at one place at most,
abbrev pub OneMisfit : Type 0
OneMisfit = (line : List ℕ) (p q : ℕ) → Misfit line p → Misfit line q → p ≡ q

-- and does not do both
abbrev pub NeverBoth : Type 0
NeverBoth = (line : List ℕ) (r : Request) (p : ℕ) → Form line r → Misfit line p → ⊥
