-- What each refusal of an evaluation tells, and which one it is.
use Rattle.std.specs.Prelude.{ℕ, suc, ◌*◌, cond, ◌||◌, List, [], ◌∷◌, length, Some, None, Option, ◌==◌, nat_le, nat_lt}
use Rattle.refusals.specs.declared.Layer.TheVariants.{Evaluation}
use Rattle.refusals.specs.declared.Refusal.{Refusal}
use Rattle.formulas.specs.declared.line.Line.{Line}
use Rattle.formulas.specs.declared.fault.EvaluationFault.{EvaluationFault}
use Rattle.formulas.specs.declared.fault.EvaluationFault.TheVariants.{Count, Line as BadLine, Absent, Room}
use Rattle.formulas.specs.Lines.{fits}

abbrev pub of_evaluation : EvaluationFault → Refusal
of_evaluation Room = record { number = 30; layer = Evaluation; place = None }
of_evaluation Count = record { number = 31; layer = Evaluation; place = None }
of_evaluation (BadLine k) = record { number = 32; layer = Evaluation; place = Some k }
of_evaluation Absent = record { number = 33; layer = Evaluation; place = None }

-- the first line that does not fit where it stands, of lines whose first is line k
abbrev pub misfit_from : ℕ → List Line → Option ℕ
misfit_from k [] = None
misfit_from k (l ∷ lines) = cond (fits k l) (misfit_from (suc k) lines) (Some k)

-- the rows of the table of refusals, each with what it refuses
abbrev pub count_row : List Line → Option EvaluationFault
count_row lines = cond (length lines == 0 || nat_lt 1024 (length lines)) (Some Count) None

abbrev pub line_row : Option ℕ → Option EvaluationFault
line_row None = None
line_row (Some k) = Some (BadLine k)

abbrev pub absent_row : List Line → ℕ → ℕ → ℕ → Option EvaluationFault
absent_row lines i s count = cond (nat_le (length lines) i || nat_le count s) (Some Absent) None

abbrev pub room_row : List Line → ℕ → ℕ → Option EvaluationFault
room_row lines count room = cond (nat_lt room (length lines * count)) (Some Room) None

-- this row, or else the next ones
abbrev pub or_else : Option EvaluationFault → Option EvaluationFault → Option EvaluationFault
or_else None next = next
or_else (Some fault) next = Some fault

-- the first row that refuses line i at state s of a source with `count` states and a buffer of `room` places
abbrev pub first_fault : List Line → ℕ → ℕ → ℕ → ℕ → Option EvaluationFault
first_fault lines i s count room =
    or_else (count_row lines) (or_else (line_row (misfit_from 0 lines)) (or_else (absent_row lines i s count) (room_row lines count room)))
