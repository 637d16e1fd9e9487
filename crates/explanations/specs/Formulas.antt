-- A formula in one line.
use Rattle.std.specs.Prelude.{ℕ, ◌-◌, cond, List, ◌++◌, length, Some, None, codes, Option, nat_le}
use Rattle.theory.specs.Formulas.{Formula, T, E, N, A, D}
use Rattle.drawings.specs.Texts.{action_text}

abbrev pub formula_text : Formula → List ℕ
formula_text T = codes "T"
formula_text E = codes "E"
formula_text (N f) = codes "!" ++ formula_text f
formula_text (A f g) = codes "(" ++ (formula_text f ++ (codes " & " ++ (formula_text g ++ codes ")")))
formula_text (D a f) = codes "<" ++ (action_text a ++ (codes ">" ++ formula_text f))

-- the room that a text leaves, if it fits
abbrev pub room_behind : ℕ → List ℕ → Option ℕ
room_behind room text = cond (nat_le (length text) room) (Some (room - length text)) None

-- the formula, where it has at most 400 bytes
abbrev pub written : Formula → List ℕ
written f = cond (nat_le (length (formula_text f)) 400) (formula_text f) (codes "the formula is too long to print in one line")

abbrev pub readable_text : Formula → List ℕ
readable_text f = written f ++ codes "\n"
