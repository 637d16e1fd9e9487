-- What crosses to C as numbers: kinds of input, layers, and formula lines.
use Rattle.std.specs.Prelude.{ℕ, min, cond, List, [], ◌∷◌, Some, None, Option, ◌==◌}
use Rattle.std.specs.Borrow.{Bor}
use Rattle.std.specs.List.{flat_map}
use Rattle.refusals.specs.declared.Layer.{Layer}
use Rattle.refusals.specs.declared.Layer.TheVariants.{Record, Table, Term, Map, Shelf, Compare, Evaluation, Console}
use Rattle.inputs.specs.declared.input.Input.{Input}
use Rattle.inputs.specs.declared.input.Input.TheVariants as inputs
use Rattle.formulas.specs.declared.line.Line.{Line}
use Rattle.formulas.specs.declared.line.Line.TheVariants.{True, End, Not, Both, Step, Unknown}

-- 0 is a term's text, any other number a table file
abbrev pub input_of : ℕ → Bor (List ℕ) → Input
input_of kind bytes = cond (kind == 0) (inputs.Term bytes) (inputs.Table bytes)

abbrev pub layer_number : Layer → ℕ
layer_number Record = 1
layer_number Table = 2
layer_number Term = 3
layer_number Map = 4
layer_number Shelf = 5
layer_number Compare = 6
layer_number Evaluation = 7
layer_number Console = 8

-- whether there is a place, and which
abbrev pub placed : Option ℕ → ℕ
placed None = 0
placed (Some at) = 1

abbrev pub place_number : Option ℕ → ℕ
place_number None = 0
place_number (Some at) = at

-- A line as three numbers: the character of its letter, and the two numbers behind it, 0 where it has none.
abbrev pub letter_of : Line → ℕ
letter_of True = 84
letter_of End = 69
letter_of (Not i) = 78
letter_of (Both i j) = 65
letter_of (Step a i) = 68
letter_of (Unknown c) = c

abbrev pub first_of : Line → ℕ
first_of True = 0
first_of End = 0
first_of (Not i) = i
first_of (Both i j) = i
first_of (Step a i) = a
first_of (Unknown c) = 0

abbrev pub second_of : Line → ℕ
second_of True = 0
second_of End = 0
second_of (Not i) = 0
second_of (Both i j) = j
second_of (Step a i) = i
second_of (Unknown c) = 0

abbrev pub three : Line → List ℕ
three line = letter_of line ∷ first_of line ∷ second_of line ∷ []

abbrev pub numbers_of : List Line → List ℕ
numbers_of lines = flat_map three lines

-- The line that three numbers stand for. An action or a letter above 255 is one that no line has, as 255 is.
abbrev pub line_of : ℕ → ℕ → ℕ → Line
line_of letter i j =
    cond (letter == 84) True
    (cond (letter == 69) End
    (cond (letter == 78) (Not i)
    (cond (letter == 65) (Both i j)
    (cond (letter == 68) (Step (min i 255) j) (Unknown (min letter 255))))))

-- one or two numbers that are left over stand for nothing
abbrev pub lines_of : List ℕ → List Line
lines_of [] = []
lines_of (letter ∷ []) = []
lines_of (letter ∷ i ∷ []) = []
lines_of (letter ∷ i ∷ j ∷ rest) = line_of letter i j ∷ lines_of rest
