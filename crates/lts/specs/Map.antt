-- What an action map does to a procedure.
use Rattle.std.specs.Prelude.{◌≡◌, ℕ, ◌<◌, ◌≤◌, cond, ◌⊎◌, List, map, Some, None, Ok, Err, Option, Result, nat_lt, slice_index, slice_set}
use Rattle.std.specs.List.{range_with_len}
use Rattle.lts.specs.Meaning.{Meaning}
use Rattle.lts.specs.declared.action_map.ActionMap.{ActionMap}
use Rattle.lts.specs.declared.map_fault.MapFault.{MapFault}
use Rattle.lts.specs.declared.map_fault.MapFault.TheVariants.{Entry}

-- the entries before place i are actions
abbrev pub ActionsBelow : List ℕ → ℕ → Type 0
ActionsBelow entries i = (k : ℕ) → k < i → slice_index entries k ≤ 63

-- a map has these entries, all of them actions; the place refused is the first that is none
abbrev pub Made : List ℕ → Result ActionMap MapFault → Type 0
Made entries (Ok m) = ActionsBelow entries 64 × (m.entries ≡ entries)
Made entries (Err (Entry i)) = (i < 64) × ActionsBelow entries i × (63 < slice_index entries i)

-- the entry of an action; there are 64 actions
abbrev pub entry : List ℕ → ℕ → Option ℕ
entry entries a = cond (nat_lt a 64) (Some (slice_index entries a)) None

-- each of the 64 actions stands for itself
abbrev pub identity : List ℕ
identity = range_with_len 0 64

-- the map with entry b for action a; none where either is no action
abbrev pub Changed : List ℕ → ℕ → ℕ → Option ActionMap → Type 0
Changed entries a b None = (63 < a) ⊎ (63 < b)
Changed entries a b (Some m) = (a ≤ 63) × (b ≤ 63) × (m.entries ≡ slice_set entries a b)

-- a step whose action is replaced by its entry
abbrev pub replaced : List ℕ → ℕ × ℕ → ℕ × ℕ
replaced entries x = (slice_index entries x.0, x.1)

-- states and ends as below, every listed action replaced by its entry
abbrev pub mapped : List ℕ → Meaning → Meaning
mapped entries m = record { count = m.count; ends = m.ends; steps = λ s. map (replaced entries) (m.steps s) }
