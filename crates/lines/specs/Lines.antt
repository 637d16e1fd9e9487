-- Parts of a text that end with a certain byte, which the last may lack.
use Rattle.std.specs.Prelude.{ℕ, cond, List, [], ◌∷◌, ◌==◌}
use Rattle.lines.specs.declared.Lines.{Lines}

abbrev pub first_part : ℕ → List ℕ → List ℕ
first_part mark [] = []
first_part mark (b ∷ bs) = cond (b == mark) [] (b ∷ first_part mark bs)

-- what follows the first such byte
abbrev pub later_part : ℕ → List ℕ → List ℕ
later_part mark [] = []
later_part mark (b ∷ bs) = cond (b == mark) bs (later_part mark bs)

-- lines end with a line feed
abbrev pub first_line : List ℕ → List ℕ
first_line = first_part 10

abbrev pub later_lines : List ℕ → List ℕ
later_lines = later_part 10

-- a byte in front of the first line
abbrev pub onto_first : ℕ → List (List ℕ) → List (List ℕ)
onto_first b [] = (b ∷ []) ∷ []
onto_first b (line ∷ lines) = (b ∷ line) ∷ lines

-- every line of a text; an empty text has none
abbrev pub all_lines : List ℕ → List (List ℕ)
all_lines [] = []
all_lines (b ∷ bs) = cond (b == 10) ([] ∷ all_lines bs) (onto_first b (all_lines bs))

-- the lines that an iterator has left
abbrev pub lines_left : Lines → List (List ℕ)
lines_left it = all_lines it.rest.now
