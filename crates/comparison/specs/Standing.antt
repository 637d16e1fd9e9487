-- What is known of the classes of a round, and of a round in progress.
use Rattle.std.specs.Prelude.{◌≡◌, ℕ, suc, ◌+◌, ◌*◌, ◌<◌, ◌≤◌, List, length, get_or, Some, None, slice_index_or}
use Rattle.lts.specs.Meaning.{Meaning}
use Rattle.theory.specs.Rounds.{all_of}
use Rattle.theory.specs.Classes.{Numbering}
use Rattle.formulas.specs.Lines.{Wellformed}
use Rattle.formulas.specs.declared.line.Line.{Line}
use Rattle.comparison.specs.Reach.{numbers, hits}
use Rattle.comparison.specs.Marks.{Marks}
use Rattle.comparison.specs.Landing.{sent, Drawn, Landing}
use Rattle.comparison.specs.Links.{Born, Linked}
use Rattle.comparison.specs.Contrasts.{Alike, Weighs, Parts}
use Rattle.comparison.specs.declared.draft.Draft.{Draft}
use Rattle.comparison.specs.declared.draft.Weighed.{Weighed}
use Rattle.comparison.specs.declared.partition.Partition.{Partition}
use Rattle.comparison.specs.declared.split.Split.{Split}

-- the classes of round k, each with a line that holds just there and nests at most k steps
pub record Based (m : Meaning) (k : ℕ) (lines : List Line) (p : Partition) : Type 0 where
  pub class_size : length p.class ≡ 256
  pub marks_size : length p.marks ≡ 256
  pub numbering : Numbering m (all_of m) k p.count (numbers p.class)
  pub marked : (c : ℕ) → c < p.count → Marks m lines k (numbers p.marks c) (λ t. numbers p.class t ≡ c)

-- and at most 4 lines for each class, but for 3
pub record Standing (m : Meaning) (k : ℕ) (lines : List Line) (p : Partition) : Type 0 where
  pub based : Based m k lines p
  pub well : Wellformed lines
  pub few : length lines + 3 ≤ 4 * p.count

-- where the splits so far send state t
abbrev pub land : Meaning → Partition → Draft → ℕ → ℕ
land m old x t =
    sent (λ a c. hits (numbers old.class) a c (m.steps t)) x.links.splits old.count (numbers old.class t) x.links.made

-- the round behind round k, with the states below s settled: each reaches just what the leader of its class does
pub record Working (m : Meaning) (k s : ℕ) (old : Partition) (lines : List Line) (x : Draft) : Type 0 where
  pub based : Based m k lines old
  pub class_size : length x.next.class ≡ 256
  pub marks_size : length x.next.marks ≡ 256
  pub leaders_size : length x.leaders ≡ 256
  pub counted : x.next.count ≡ old.count + x.links.made
  pub linked : Linked x.links
  pub born : Born old.count x.links
  pub drawn : Drawn x.links.splits x.links.made
  pub landing : Landing m k (numbers old.class) x.next.count (land m old x)
  pub settled : (t : ℕ) → t < s → numbers x.next.class t ≡ land m old x t
  pub leads : (c : ℕ) (l : Weighed) → slice_index_or x.leaders c None ≡ Some l → (l.state < s) × (land m old x l.state ≡ c) × Weighs m (numbers old.class) l
  pub follows : (t : ℕ) → t < s → (l : Weighed) × (slice_index_or x.leaders (land m old x t) None ≡ Some l) × Alike m (numbers old.class) t l.state
  pub marked : (c : ℕ) → c < x.next.count → Marks m lines (suc k) (numbers x.next.marks c) (λ t. land m old x t ≡ c)
  pub well : Wellformed lines
  pub few : length lines + 3 ≤ 4 * x.next.count

-- the split tells s from the leader of the class where it lands
pub record Parting (m : Meaning) (s : Weighed) (old : Partition) (x : Draft) (y : Split) : Type 0 where
  pub weighs : Weighs m (numbers old.class) s
  pub leader : Weighed
  pub lands : land m old x s.state ≡ y.from
  pub led : get_or x.leaders y.from None ≡ Some leader
  pub parts : Parts m (numbers old.class) s.state leader.state y.from y
