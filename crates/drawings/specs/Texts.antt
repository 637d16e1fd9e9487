-- How a procedure is written out: as a table, as a Graphviz digraph, in the Aldebaran form.
use Rattle.std.specs.Prelude.{ℕ, ◌+◌, ◌-◌, Bool, false, cond, not, List, [], ◌∷◌, ◌++◌, length, codes, decimal, sum_by, ◌==◌, nat_lt}
use Rattle.std.specs.List.{range_with_len, flat_map}
use Rattle.lts.specs.Meaning.{Meaning}
use Rattle.drawings.specs.declared.form.Form.{Form}
use Rattle.drawings.specs.declared.form.Form.TheVariants.{Table, Dot, Aut}

-- the character of an action, or `#62` and `#63`, which have none
abbrev pub action_text : ℕ → List ℕ
action_text a = cond (nat_lt a 26) ((97 + a) ∷ []) (cond (nat_lt a 52) ((65 + (a - 26)) ∷ []) (cond (nat_lt a 62) ((48 + (a - 52)) ∷ []) (codes "#" ++ decimal a)))

-- the start of the whole, with so many transitions and states
abbrev pub head_text : Form → ℕ → ℕ → List ℕ
head_text Table transitions states = []
head_text Dot transitions states = codes "digraph procedure {\n  rankdir=LR;\n  node [shape=circle];\n  start [shape=point];\n  start -> 0;\n"
head_text Aut transitions states = codes "des (0, " ++ (decimal transitions ++ (codes ", " ++ (decimal states ++ codes ")\n")))

-- the start of state s; `silent` where it lists no step
abbrev pub state_text : Form → ℕ → Bool → Bool → List ℕ
state_text Table s end silent = codes "state " ++ (decimal s ++ cond end (codes ": end") (cond silent (codes ": deadlock") []))
state_text Dot s end silent = codes "  " ++ (decimal s ++ cond end (codes " [shape=doublecircle];\n") (codes ";\n"))
state_text Aut s end silent = cond end (codes "(" ++ (decimal s ++ (codes ", \"end\", " ++ (decimal s ++ codes ")\n")))) []

-- a step out of state s; `fresh` where nothing is told of s yet
abbrev pub step_text : Form → ℕ → Bool → ℕ × ℕ → List ℕ
step_text Table s fresh step = cond fresh (codes ": ") (codes ", ") ++ (action_text step.0 ++ (codes " -> " ++ decimal step.1))
step_text Dot s fresh step = codes "  " ++ (decimal s ++ (codes " -> " ++ (decimal step.1 ++ (codes " [label=\"" ++ (action_text step.0 ++ codes "\"];\n")))))
step_text Aut s fresh step = codes "(" ++ (decimal s ++ (codes ", \"" ++ (action_text step.0 ++ (codes "\", " ++ (decimal step.1 ++ codes ")\n")))))

abbrev pub foot_text : Form → List ℕ
foot_text Table = codes "\n"
foot_text Dot = []
foot_text Aut = []

abbrev pub last_text : Form → List ℕ
last_text Table = []
last_text Dot = codes "}\n"
last_text Aut = []

abbrev pub steps_text : Form → ℕ → Bool → List (ℕ × ℕ) → List ℕ
steps_text form s fresh [] = []
steps_text form s fresh (step ∷ steps) = step_text form s fresh step ++ steps_text form s false steps

-- all that is told of state s
abbrev pub row_text : Form → Meaning → ℕ → List ℕ
row_text form m s = state_text form s (m.ends s) (length (m.steps s) == 0) ++ (steps_text form s (not (m.ends s)) (m.steps s) ++ foot_text form)

-- the listed steps of state s, and one more where it is an end, which the Aldebaran form tells as a transition `end` to itself
abbrev pub transitions_of : Meaning → ℕ → ℕ
transitions_of m s = length (m.steps s) + cond (m.ends s) 1 0

abbrev pub transitions : Meaning → ℕ
transitions m = sum_by (transitions_of m) (range_with_len 0 m.count)

abbrev pub drawing : Form → Meaning → List ℕ
drawing form m = head_text form (transitions m) m.count ++ (flat_map (row_text form m) (range_with_len 0 m.count) ++ last_text form)
