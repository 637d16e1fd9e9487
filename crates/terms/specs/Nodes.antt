-- What a table of nodes stands for: each node's children stand before it.
use Rattle.std.specs.Prelude.{ℕ, ◌<◌, List, [], ◌∷◌, ◌++◌, take, slice_index_or}
use Rattle.std.specs.Coded.{×_prop, Unit-prop, le_prop}
use Rattle.terms.specs.Syntax.{Tree, leaf, choice, sequence}
use Rattle.terms.specs.declared.node.Node.{Node}
use Rattle.terms.specs.declared.node.Node.TheVariants.{Action, Choice, Sequence}

-- the tree of a node, given those of the nodes before it
abbrev pub make : List Tree → Node → Tree
make trees (Action a i) = leaf a i
make trees (Choice x y) = choice (slice_index_or trees x (leaf 0 0)) (slice_index_or trees y (leaf 0 0))
make trees (Sequence x y) = sequence (slice_index_or trees x (leaf 0 0)) (slice_index_or trees y (leaf 0 0))

-- the trees of the nodes, in their order, behind those of earlier nodes
abbrev pub grow : List Tree → List Node → List Tree
grow trees [] = trees
grow trees (node ∷ nodes) = grow (trees ++ make trees node ∷ []) nodes

-- the tree of node k among the first `used` nodes
abbrev pub tree : List Node → ℕ → ℕ → Tree
tree nodes used k = slice_index_or (grow [] (take used nodes)) k (leaf 0 0)

-- the children of a node at place k stand before it
abbrev pub Lower : ℕ → Node → Type 0
Lower k (Action a i) = Unit {0}
Lower k (Choice x y) = (x < k) × (y < k)
Lower k (Sequence x y) = (x < k) × (y < k)

pub Lower-prop : (k : ℕ) (node : Node) → IsProp (Lower k node)
Lower-prop k (Action a i) = Unit-prop
Lower-prop k (Choice x y) = ×_prop le_prop le_prop
Lower-prop k (Sequence x y) = ×_prop le_prop le_prop
