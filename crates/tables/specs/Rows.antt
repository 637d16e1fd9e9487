-- Which records are refused: the rows, each by the records before and the record itself.
use Rattle.std.specs.Prelude.{ℕ, Bool, true, false, cond, not, ◌||◌, List, [], ◌∷◌, ◌++◌, length, Some, None, Option, ◌==◌, nat_le, nat_lt}
use Rattle.tables.specs.Kinds.{Kind, head, end, step, remark, unknown}
use Rattle.tables.specs.Records.{Rec, Entry, whole, damaged, entries}
use Rattle.tables.specs.Drawing.{byte, states_of, steps_of}
use Rattle.tables.specs.declared.fault.TableFault.{TableFault}
use Rattle.tables.specs.declared.fault.TableFault.TheVariants.{Long, Record, Head, Form, Range, Steps}

abbrev pub is_head : Kind → Bool
is_head head = true
is_head end = false
is_head step = false
is_head remark = false
is_head (unknown k) = false

-- the first record is no head, or this is a second head
abbrev pub misplaced : List Rec → Kind → Bool
misplaced [] k = not (is_head k)
misplaced (r ∷ rs) k = is_head k

-- an unknown kind, or a length that is wrong for the kind
abbrev pub misformed : Kind → ℕ → Bool
misformed head n = not (n == 1)
misformed end n = not (n == 1)
misformed step n = not (n == 3)
misformed remark n = false
misformed (unknown k) n = true

-- n, a state or an action is out of range: n is from 1 to 128, states are below n, actions at most 63
abbrev pub outside : List Rec → Kind → List ℕ → Bool
outside before head body = nat_lt (byte body 0) 1 || nat_lt 128 (byte body 0)
outside before end body = nat_le (states_of before) (byte body 0)
outside before step body = nat_le (states_of before) (byte body 0) || (nat_lt 63 (byte body 1) || nat_le (states_of before) (byte body 2))
outside before remark body = false
outside before (unknown k) body = false

-- the 513th step
abbrev pub crowded : List Rec → Kind → Bool
crowded before head = false
crowded before end = false
crowded before step = nat_le 512 (length (steps_of before))
crowded before remark = false
crowded before (unknown k) = false

-- the first row that refuses a record
abbrev pub fault : List Rec → Rec → Option TableFault
fault before r =
    cond (misplaced before r.kind) (Some (Head r.place))
    (cond (misformed r.kind (length r.body)) (Some (Form r.place))
    (cond (outside before r.kind r.body) (Some (Range r.place))
    (cond (crowded before r.kind) (Some (Steps r.place)) None)))

-- the first of two
abbrev pub or_else : Option TableFault → Option TableFault → Option TableFault
or_else None g = g
or_else (Some f) g = Some f

-- the first refusal of what follows the records before; a file without records lacks its head
abbrev pub refused : List Rec → List Entry → Option TableFault
refused [] [] = Some (Head 0)
refused (r ∷ rs) [] = None
refused before (damaged f ∷ es) = Some (Record f)
refused before (whole r ∷ es) = or_else (fault before r) (refused (before ++ r ∷ []) es)

-- the first refusal of a file
abbrev pub first_refusal : List ℕ → Option TableFault
first_refusal file = cond (nat_lt 16384 (length file)) (Some Long) (refused [] (entries file))
