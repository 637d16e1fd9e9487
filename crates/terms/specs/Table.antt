-- What the nodes of a table stand for, and how the table grows.
use Rattle.std.specs.Prelude.{◌≡◌, ℕ, ◌+◌, ◌<◌, ◌≤◌}
use Rattle.terms.specs.Syntax.{Tree, leaf, choice, sequence}
use Rattle.terms.specs.Nodes.{tree}
use Rattle.terms.specs.declared.nodes.Nodes.{Nodes}
use Rattle.terms.specs.declared.nodes.subterm.Parts.{Parts}
use Rattle.terms.specs.declared.nodes.subterm.Parts.TheVariants.{Action, Choice, Sequence}
use Rattle.terms.specs.declared.nodes.subterm.Subterm.{Subterm}

-- the tree of node k
abbrev pub at : Nodes → ℕ → Tree
at nodes k = tree nodes.table nodes.used k

abbrev pub subtree : Subterm → Tree
subtree s = at s.nodes.now s.node

-- what a node's parts say of its tree
abbrev pub Says : Subterm → Parts → Type 0
Says s (Action a i) = subtree s ≡ leaf a i
Says s (Choice x y) = (x.node < s.node) × (y.node < s.node) × (subtree s ≡ choice (subtree x) (subtree y))
Says s (Sequence x y) = (x.node < s.node) × (y.node < s.node) × (subtree s ≡ sequence (subtree x) (subtree y))

-- nodes were added, and the others stay
pub record Grown (nodes nodes' : Nodes) : Type 0 where
  pub used : nodes.used ≤ nodes'.used
  pub trees : (k : ℕ) → k < nodes.used → at nodes' k ≡ at nodes k

-- n nodes were added, and node k stands for t
pub record Joined (nodes : Nodes) (t : Tree) (n k : ℕ) (nodes' : Nodes) : Type 0 where
  pub grown : Grown nodes nodes'
  pub below : k < nodes'.used
  pub tree : at nodes' k ≡ t
  pub added : nodes'.used ≡ nodes.used + n
