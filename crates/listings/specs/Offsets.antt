-- Where the actions of a text stand.
use Rattle.std.specs.Prelude.{◌≡◌, ℕ, zero, suc, ◌+◌, cond, List, [], ◌∷◌, Some, None, Option, slice_index}
use Rattle.std.specs.List.{slice_get}
use Rattle.terms.specs.Grammar.{Letter}
use Rattle.terms.specs.Scan.{is_action}

-- the offsets of the action characters of a text whose first byte has the offset `at`
abbrev pub action_offsets : ℕ → List ℕ → List ℕ
action_offsets at [] = []
action_offsets at (c ∷ cs) = cond (is_action c) (at ∷ action_offsets (at + 1) cs) (action_offsets (at + 1) cs)

-- the first, second, .. of a list
abbrev pub from_one : ℕ → List ℕ → Option ℕ
from_one zero xs = None
from_one (suc i) xs = slice_get xs i

-- the offset of the first, second, .. action character
abbrev pub action_offset : List ℕ → ℕ → Option ℕ
action_offset text place = from_one place (action_offsets 0 text)

-- the action of a step of a term stands in the text at the place that is the step's target
abbrev pub Stands : List ℕ → ℕ × ℕ → Type 0
Stands text step = (at : ℕ) × (action_offset text step.1 ≡ Some at) × Letter (slice_index text at) step.0
