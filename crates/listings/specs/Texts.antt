-- How classes and lines are written out.
use Rattle.std.specs.Prelude.{ℕ, ◌-◌, Bool, true, false, cond, List, [], ◌∷◌, ◌++◌, map, length, codes, decimal, filter, nat_eq, nat_lt, slice_index, slice_index_or}
use Rattle.std.specs.List.{range_with_len, flat_map}
use Rattle.drawings.specs.Texts.{action_text}
use Rattle.formulas.specs.declared.line.Line.{Line}
use Rattle.formulas.specs.declared.line.Line.TheVariants.{True, End, Not, Both, Step, Unknown}

-- state s of the two procedures side by side, of which the left one has n states
abbrev pub state_text : ℕ → ℕ → List ℕ
state_text n s = cond (nat_lt s n) (codes "left " ++ decimal s) (codes "right " ++ decimal (s - n))

-- the states of class c among the first `count`
abbrev pub members : List ℕ → ℕ → ℕ → List ℕ
members classes c count = filter (λ s. nat_eq (slice_index classes s) c) (range_with_len 0 count)

-- texts behind a colon, with commas between; `fresh` where nothing is listed yet
abbrev pub listed : Bool → List (List ℕ) → List ℕ
listed fresh [] = []
listed fresh (x ∷ xs) = cond fresh (codes ": ") (codes ", ") ++ (x ++ listed false xs)

-- class c with its states; `classes` has the class of each state
abbrev pub class_text : ℕ → List ℕ → ℕ → List ℕ
class_text n classes c = codes "class " ++ (decimal c ++ (listed true (map (state_text n) (members classes c (length classes))) ++ codes "\n"))

-- all K classes
abbrev pub classes_text : ℕ → List ℕ → ℕ → List ℕ
classes_text n classes K = flat_map (class_text n classes) (range_with_len 0 K)

abbrev pub line_text : Line → List ℕ
line_text True = codes "T"
line_text End = codes "E"
line_text (Not i) = codes "N " ++ decimal i
line_text (Both i j) = codes "A " ++ (decimal i ++ (codes " " ++ decimal j))
line_text (Step a i) = codes "D " ++ (action_text a ++ (codes " " ++ decimal i))
line_text (Unknown c) = codes "?"

-- line k behind its number
abbrev pub numbered_text : List Line → ℕ → List ℕ
numbered_text lines k = decimal k ++ (codes ": " ++ (line_text (slice_index_or lines k True) ++ codes "\n"))

abbrev pub lines_text : List Line → List ℕ
lines_text lines = flat_map (numbered_text lines) (range_with_len 0 (length lines))
