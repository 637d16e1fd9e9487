-- The procedure that the records of a file draw.
use Rattle.std.specs.Prelude.{◌≡◌, ℕ, Bool, false, ◌||◌, List, [], ◌∷◌, ◌++◌, map, filter, ◌==◌, nat_eq, slice_index}
use Rattle.lts.specs.Meaning.{Meaning, In}
use Rattle.tables.specs.Kinds.{Kind, head, end, step, remark, unknown}
use Rattle.tables.specs.Records.{Rec}
use Rattle.tables.specs.declared.step.Step.{Step}

abbrev pub byte : List ℕ → ℕ → ℕ
byte body i = slice_index body i

-- the number of states, told by the head, which is the first record
abbrev pub states_of : List Rec → ℕ
states_of [] = 0
states_of (r ∷ rs) = byte r.body 0

-- whether a record is an end record that names state s
abbrev pub names_end : ℕ → Kind → List ℕ → Bool
names_end s head body = false
names_end s end body = s == byte body 0
names_end s step body = false
names_end s remark body = false
names_end s (unknown k) body = false

-- whether some end record names state s
abbrev pub ended : ℕ → List Rec → Bool
ended s [] = false
ended s (r ∷ rs) = names_end s r.kind r.body || ended s rs

-- an end record that names state s stands among these
abbrev pub Named : ℕ → List Rec → Type 0
Named s rs = (r : Rec) × In r rs × (r.kind ≡ end) × (byte r.body 0 ≡ s)

-- the step of a step record: from, action, to
abbrev pub step_of : Kind → List ℕ → List Step
step_of head body = []
step_of end body = []
step_of step body = record { from = byte body 0; action = byte body 1; to = byte body 2 } ∷ []
step_of remark body = []
step_of (unknown k) body = []

-- the steps, in file order, with repetition
abbrev pub steps_of : List Rec → List Step
steps_of [] = []
steps_of (r ∷ rs) = step_of r.kind r.body ++ steps_of rs

abbrev pub onward : Step → ℕ × ℕ
onward x = (x.action, x.to)

-- of these the steps out of state s: action and target
abbrev pub out_of : ℕ → List Step → List (ℕ × ℕ)
out_of s xs = map onward (filter (λ x. nat_eq x.from s) xs)

abbrev pub table_meaning : List Rec → Meaning
table_meaning rs = record { count = states_of rs; ends = λ s. ended s rs; steps = λ s. out_of s (steps_of rs) }
