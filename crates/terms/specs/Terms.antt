-- The tree that a read term stands for.
use Rattle.terms.specs.Syntax.{Tree}
use Rattle.terms.specs.Table.{at}
use Rattle.terms.specs.declared.term.Term.{Term}

abbrev pub tree_of : Term → Tree
tree_of t = at t.nodes t.root
