-- What is done to a round in progress.
use Rattle.std.specs.Prelude.{◌≡◌, ℕ, ◌+◌, ◌<◌, ◌⊎◌, List, length, replicate, Some, None, Option, slice_set}
use Rattle.comparison.specs.Links.{cleared, pushed}
use Rattle.comparison.specs.declared.draft.Draft.{Draft}
use Rattle.comparison.specs.declared.draft.Weighed.{Weighed}
use Rattle.comparison.specs.declared.links.Chain.{Chain}
use Rattle.comparison.specs.declared.links.Links.{Links}
use Rattle.comparison.specs.declared.partition.Partition.{Partition}
use Rattle.comparison.specs.declared.split.Split.{Split}

-- nothing is split, and no state settled, where these were the links of the round before
abbrev pub fresh : Partition → Links → Draft
fresh old links = record { next = old; links = cleared links; leaders = replicate 256 None }

-- state s joins class d
abbrev pub joined : Draft → ℕ → ℕ → Draft
joined x s d =
    record { next = record { class = slice_set x.next.class s d; marks = x.next.marks; count = x.next.count }; links = x.links; leaders = x.leaders }

-- and leads it
abbrev pub led : Draft → Weighed → ℕ → Draft
led x s d =
    record { next = record { class = slice_set x.next.class s.state d; marks = x.next.marks; count = x.next.count }; links = x.links; leaders = slice_set x.leaders d (Some s) }

-- one or the other
abbrev pub Followed : Draft → Weighed → ℕ → Draft → Type 0
Followed x s d y = (y ≡ joined x s.state d) ⊎ (y ≡ led x s d)

-- state s leaves its class by a split for a new class, and leads it
abbrev pub parted : Draft → Weighed → Split → ℕ → ℕ → List (Option Chain) → List (Option ℕ) → Draft
parted x s y gone stays chains nexts =
    record { next = record { class = slice_set x.next.class s.state x.next.count; marks = slice_set (slice_set x.next.marks y.from stays) x.next.count gone; count = x.next.count + 1 }; links = pushed x.links y chains nexts; leaders = slice_set x.leaders x.next.count (Some s) }

-- there is room for that
pub record FitsIn (x : Draft) (s : Weighed) (y : Split) : Type 0 where
  pub state : s.state < length x.next.class
  pub number : s.state < 256
  pub room : x.next.count < 256
  pub made : x.links.made < 256
  pub from : y.from < length x.next.marks
  pub low : y.from < 256
  pub marks : x.next.count < length x.next.marks
  pub leaders : x.next.count < length x.leaders
