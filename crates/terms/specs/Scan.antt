-- The first refusal of a text. The reader stands before an operand or behind one, and the next byte decides.
use Rattle.std.specs.Prelude.{ℕ, zero, suc, ◌+◌, ◌-◌, Bool, cond, ◌&&◌, ◌||◌, List, [], ◌∷◌, length, Some, None, Option, ◌==◌, nat_le, nat_lt}
use Rattle.terms.specs.declared.fault.TermFault.{TermFault}
use Rattle.terms.specs.declared.fault.TermFault.TheVariants.{Long, Misplaced, Early, Actions, Brackets}

pub data Stand : Type 0 where
  before : Stand
  behind : Stand

-- What a byte does there.
pub data Move : Type 0 where
  acts : Move
  opens : Move
  joins : Move
  closes : Move
  misfits : Move

abbrev pub is_action : ℕ → Bool
is_action c = (nat_le 97 c && nat_le c 122) || ((nat_le 65 c && nat_le c 90) || (nat_le 48 c && nat_le c 57))

-- before an operand: an action, or '('; behind one: '+' or '.', or ')' where a bracket is open
abbrev pub move : Stand → ℕ → ℕ → Move
move before opened c = cond (is_action c) acts (cond (c == 40) opens misfits)
move behind opened c = cond (c == 43 || c == 46) joins (cond (c == 41 && nat_lt 0 opened) closes misfits)

-- The text must end behind an operand with no bracket open.
abbrev pub at_end : Stand → ℕ → ℕ → Option TermFault
at_end before opened at = Some (Early at)
at_end behind zero at = None
at_end behind (suc opened) at = Some (Early at)

-- one answer for each move
abbrev pub by_move : Move → (acting opening joining closing misfitting : Option TermFault) → Option TermFault
by_move acts a o j c m = a
by_move opens a o j c m = o
by_move joins a o j c m = j
by_move closes a o j c m = c
by_move misfits a o j c m = m

-- The first refusal of what follows, with so many brackets open and actions read, at an offset.
abbrev pub scan : Stand → ℕ → ℕ → ℕ → List ℕ → Option TermFault
scan stand opened actions at [] = at_end stand opened at
scan stand opened actions at (c ∷ cs) =
    by_move (move stand opened c)
    (cond (nat_le 63 actions) (Some (Actions at)) (scan behind opened (actions + 1) (at + 1) cs))
    (cond (nat_le 32 opened) (Some (Brackets at)) (scan before (opened + 1) actions (at + 1) cs))
    (scan before opened actions (at + 1) cs)
    (scan behind (opened - 1) actions (at + 1) cs)
    (Some (Misplaced at))

abbrev pub first_refusal : List ℕ → Option TermFault
first_refusal text = cond (nat_lt 512 (length text)) (Some Long) (scan before 0 0 0 text)
