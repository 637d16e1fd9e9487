-- The splits of a round, linked by the class that they split.
use Rattle.std.specs.Prelude.{◌≡◌, ℕ, ◌+◌, ◌<◌, ◌≤◌, List, length, replicate, Some, None, Option, ◌≢◌, slice_index_or, slice_set}
use Rattle.comparison.specs.Landing.{unsplit}
use Rattle.comparison.specs.declared.links.Chain.{Chain}
use Rattle.comparison.specs.declared.links.Links.{Links}
use Rattle.comparison.specs.declared.split.Split.{Split}

-- the class that split t splits
abbrev pub from_at : List Split → ℕ → ℕ
from_at splits t = (slice_index_or splits t unsplit).from

-- j is the first split of class c from place i on
pub record Jump (splits : List Split) (made c i j : ℕ) : Type 0 where
  pub on : i ≤ j
  pub inside : j < made
  pub of : from_at splits j ≡ c
  pub quiet : (t : ℕ) → i ≤ t → t < j → from_at splits t ≢ c

-- that split, or none where there is none
abbrev pub Next : List Split → ℕ → ℕ → ℕ → Option ℕ → Type 0
Next splits made c i None = (t : ℕ) → i ≤ t → t < made → from_at splits t ≢ c
Next splits made c i (Some j) = Jump splits made c i j

-- l is the last split of class c
pub record Latest (splits : List Split) (made c l : ℕ) : Type 0 where
  pub inside : l < made
  pub of : from_at splits l ≡ c
  pub quiet : (t : ℕ) → l < t → t < made → from_at splits t ≢ c

-- the first and the last split of class c, or none where there is none
abbrev pub Chained : List Split → ℕ → ℕ → Option Chain → Type 0
Chained splits made c None = Next splits made c 0 None
Chained splits made c (Some x) = Jump splits made c 0 x.first × Latest splits made c x.last

-- where a chain begins
abbrev pub begun : Option Chain → Option ℕ
begun None = None
begun (Some x) = Some x.first

-- no split yet
abbrev pub unlinked : Links
unlinked = record { splits = replicate 256 unsplit; made = 0; chains = replicate 256 None; nexts = replicate 256 None }

-- no split any more
abbrev pub cleared : Links → Links
cleared x = record { splits = x.splits; made = 0; chains = replicate 256 None; nexts = x.nexts }

-- one split more
abbrev pub pushed : Links → Split → List (Option Chain) → List (Option ℕ) → Links
pushed x y chains nexts = record { splits = slice_set x.splits x.made y; made = x.made + 1; chains = chains; nexts = nexts }

-- split t splits a class that was there before it, and makes class first + t
abbrev pub Born : ℕ → Links → Type 0
Born first x = (t : ℕ) → t < x.made → from_at x.splits t < first + t

-- each class has its chain, and each split the next one of its class
pub record Linked (x : Links) : Type 0 where
  pub splits_size : length x.splits ≡ 256
  pub chains_size : length x.chains ≡ 256
  pub nexts_size : length x.nexts ≡ 256
  pub chains : (c : ℕ) → c < 256 → Chained x.splits x.made c (slice_index_or x.chains c None)
  pub nexts : (t : ℕ) → t < x.made → Next x.splits x.made (from_at x.splits t) (t + 1) (slice_index_or x.nexts t None)
