-- The ten pairs.
use Rattle.std.specs.Prelude.{ℕ, Bool, true, false, List, [], ◌∷◌, length, slice_index_or}
use Rattle.lts.specs.Meaning.{Meaning}
use Rattle.pairs.specs.Rows.{term, given, same, different, Row}

-- a procedure by its states, each with its end mark and its steps
abbrev pub states : List (Bool × List (ℕ × ℕ)) → Meaning
states rows =
    record { count = length rows; ends = λ s. (slice_index_or rows s (false, [])).0; steps = λ s. (slice_index_or rows s (false, [])).1 }

-- one state, no end
abbrev pub no_end : Meaning
no_end = states ((false, []) ∷ [])

-- one state, an end
abbrev pub an_end : Meaning
an_end = states ((true, []) ∷ [])

-- one state, a to itself
abbrev pub to_itself : Meaning
to_itself = states ((false, (0, 0) ∷ []) ∷ [])

-- two states, a to each other
abbrev pub to_each_other : Meaning
to_each_other = states ((false, (0, 1) ∷ []) ∷ (false, (0, 0) ∷ []) ∷ [])

-- Left, right, verdict with the depth, number of classes, number of rounds.
abbrev pub TenPairs : Type 0
TenPairs =
    Row (term "a") (term "a+a") same 2 0
    × Row (term "(a+a).b") (term "a.b+a.(b+b)") same 3 1
    × Row (term "(a.b).c") (term "a.(b.c)") same 4 1
    × Row (term "(a+b).c") (term "a.c+b.c") same 3 1
    × Row (term "a") (term "b") (different 1) 3 1
    × Row (term "a.a") (term "a") (different 1) 3 1
    × Row (term "a.(b+c)") (term "a.b+a.c") (different 2) 6 2
    × Row (term "a.(b+c)+a.b") (term "a.(b+c)") (different 2) 5 2
    × Row (given no_end) (given an_end) (different 0) 2 0
    × Row (given to_itself) (given to_each_other) same 1 0
