-- Terms as syntax trees.
use Rattle.std.specs.Prelude.{◌≡◌, ℕ, suc, ◌+◌, ◌≤◌}
use Rattle.std.specs.Coded.{×_prop, le_prop, Coded-set, coded_ℕ}

-- A term. Each action carries its place: it is the first, second, .. action written in the text.
pub data Tree : Type 0 where
  leaf : ℕ → ℕ → Tree
  choice : Tree → Tree → Tree
  sequence : Tree → Tree → Tree

-- the number of actions written in a term
abbrev pub size : Tree → ℕ
size (leaf a i) = 1
size (choice x y) = size x + size y
size (sequence x y) = size x + size y

-- every action is at most 63, and the actions are numbered in text order from i + 1
abbrev pub Numbered : ℕ → Tree → Type 0
Numbered i (leaf a j) = (a ≤ 63) × (j ≡ suc i)
Numbered i (choice x y) = Numbered i x × Numbered (i + size x) y
Numbered i (sequence x y) = Numbered i x × Numbered (i + size x) y

pub Numbered-prop : (i : ℕ) (t : Tree) → IsProp (Numbered i t)
Numbered-prop i (leaf a j) = ×_prop le_prop (Coded-set coded_ℕ j (suc i))
Numbered-prop i (choice x y) = ×_prop (Numbered-prop i x) (Numbered-prop (i + size x) y)
Numbered-prop i (sequence x y) = ×_prop (Numbered-prop i x) (Numbered-prop (i + size x) y)

-- What remains of a term: nothing, or a term.
pub data Rest (X : Type 0) : Type 0 where
  done : Rest X
  left : X → Rest X
