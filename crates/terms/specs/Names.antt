-- How a reader names nodes of its table, and how many it names.
use Rattle.std.specs.Prelude.{ℕ, zero, suc, ◌+◌, ◌<◌, List, [], ◌∷◌, IfSome, Some, None, Option, slice_index_or}
use Rattle.std.specs.List.{AllByRecursion}
use Rattle.terms.specs.Syntax.{Tree}
use Rattle.terms.specs.declared.term.reader.Frame.{Frame}
use Rattle.terms.specs.declared.term.reader.Position.{Position}
use Rattle.terms.specs.declared.term.reader.Position.TheVariants.{Before, Behind}

-- the tree of a node that is named
abbrev pub known : (ℕ → Tree) → Option ℕ → Option Tree
known trees None = None
known trees (Some k) = Some (trees k)

-- the node that a position names
abbrev pub named : Position → Option ℕ
named (Before p) = p
named (Behind k) = Some k

-- the open brackets, innermost first
abbrev pub stacked : List Frame → ℕ → List Frame
stacked frames zero = []
stacked frames (suc n) = slice_index_or frames n (record { sum = None; product = None }) ∷ stacked frames n

-- a node that is named stands in the table
abbrev pub Below : ℕ → Option ℕ → Type 0
Below used o = IfSome o (λ k. k < used)

-- the open brackets name nodes of the table
abbrev pub Framed : ℕ → List Frame → Type 0
Framed used fs = AllByRecursion (λ f. Below used f.sum × Below used f.product) fs

-- how many nodes are named
abbrev pub one : Option ℕ → ℕ
one None = 0
one (Some k) = 1

abbrev pub weight : List Frame → ℕ
weight [] = 0
weight (f ∷ fs) = one f.sum + one f.product + weight fs
