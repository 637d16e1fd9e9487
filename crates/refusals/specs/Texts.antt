-- How a refusal and its layer are written out.
use Rattle.std.specs.Prelude.{ℕ, List, ◌++◌, Some, None, codes, decimal, Option}
use Rattle.refusals.specs.declared.Layer.{Layer}
use Rattle.refusals.specs.declared.Layer.TheVariants.{Record, Table, Term, Map, Shelf, Compare, Evaluation, Console}
use Rattle.refusals.specs.declared.Refusal.{Refusal}

abbrev pub layer_text : Layer → List ℕ
layer_text Record = codes "record"
layer_text Table = codes "table"
layer_text Term = codes "term"
layer_text Map = codes "map"
layer_text Shelf = codes "shelf"
layer_text Compare = codes "compare"
layer_text Evaluation = codes "evaluation"
layer_text Console = codes "console"

-- ` at 7`, or nothing where there is no place
abbrev pub place_text : Option ℕ → List ℕ
place_text None = codes ""
place_text (Some place) = codes " at " ++ decimal place

abbrev pub refusal_text : Refusal → List ℕ
refusal_text r = codes "refused " ++ (decimal r.number ++ place_text r.place)
