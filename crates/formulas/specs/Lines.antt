-- What a list of lines means.
use Rattle.std.specs.Prelude.{◌≡◌, ℕ, ◌<◌, Bool, true, false, ◌&&◌, List, [], ◌∷◌, ◌++◌, length, nat_le, nat_lt, slice_index_or}
use Rattle.theory.specs.Formulas.{Formula, T, E, N, A, D}
use Rattle.formulas.specs.declared.line.Line.{Line}
use Rattle.formulas.specs.declared.line.Line.TheVariants.{True, End, Not, Both, Step, Unknown}

-- line k is one of the five letters, names earlier lines only, and an action of at most 63
abbrev pub fits : ℕ → Line → Bool
fits k True = true
fits k End = true
fits k (Not i) = nat_lt i k
fits k (Both i j) = nat_lt i k && nat_lt j k
fits k (Step a i) = nat_le a 63 && nat_lt i k
fits k (Unknown c) = false

abbrev pub Wellformed : List Line → Type 0
Wellformed lines = (k : ℕ) → k < length lines → fits k (slice_index_or lines k True) ≡ true

-- the formula of a line, given those of the lines before it; only well-formed lines are ever asked for theirs
abbrev pub made_of : List Formula → Line → Formula
made_of fs True = T
made_of fs End = E
made_of fs (Not i) = N (slice_index_or fs i T)
made_of fs (Both i j) = A (slice_index_or fs i T) (slice_index_or fs j T)
made_of fs (Step a i) = D a (slice_index_or fs i T)
made_of fs (Unknown c) = T

-- the formulas of the lines, in their order, behind those of earlier lines
abbrev pub formulas_from : List Formula → List Line → List Formula
formulas_from fs [] = fs
formulas_from fs (line ∷ lines) = formulas_from (fs ++ made_of fs line ∷ []) lines

-- the formula that line i names
abbrev pub formula : List Line → ℕ → Formula
formula lines i = slice_index_or (formulas_from [] lines) i T
