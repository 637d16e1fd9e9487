-- One node more in a table of nodes.
use Rattle.std.proofs.Common.{◌≡◌, ℕ, ◌+◌, ◌<◌, List, [], ◌∷◌, ◌++◌, length, get_or, take, set, sym, refl, ap, ◌∙◌, add-zero, arith}
use Rattle.std.proofs.lemmas.List.{length_push, length-take-le, take_more_set, get_or_append_left, get_or_push}
use Rattle.terms.specs.Syntax.{Tree, leaf}
use Rattle.terms.specs.Nodes.{make, grow, tree}
use Rattle.terms.specs.Table.{Joined}
use Rattle.terms.specs.declared.node.Node.{Node}
use Rattle.terms.specs.declared.nodes.Nodes.{Nodes}

pub grow_push : (trees : List Tree) (nodes : List Node) (node : Node) → grow trees (nodes ++ node ∷ []) ≡ grow trees nodes ++ make (grow trees nodes) node ∷ []
grow_push trees [] node = refl
grow_push trees (n ∷ nodes) node = grow_push (trees ++ make trees n ∷ []) nodes node

pub length_grow : (trees : List Tree) (nodes : List Node) → length (grow trees nodes) ≡ length trees + length nodes
length_grow trees [] = sym (add-zero (length trees))
length_grow trees (n ∷ nodes) =
    let h = length_grow (trees ++ make trees n ∷ []) nodes in
    let p = length_push trees (make trees n) in
    omega arith

module _ (nodes : List Node) (used : ℕ) (node : Node) (room : used < length nodes) where
  grown : grow [] (take (used + 1) (set nodes used node)) ≡ grow [] (take used nodes) ++ make (grow [] (take used nodes)) node ∷ []
  grown = ap (grow []) (take_more_set nodes used node room) ∙ grow_push [] (take used nodes) node

  grown_length : length (grow [] (take used nodes)) ≡ used
  grown_length =
      let h = length_grow [] (take used nodes) in
      let l = length-take-le used nodes (omega arith) in
      omega arith

  kept : (k : ℕ) → k < used → tree (set nodes used node) (used + 1) k ≡ tree nodes used k
  kept k l =
      let n = grown_length in
      ap (λ ts. get_or ts k (leaf 0 0)) grown ∙ get_or_append_left (grow [] (take used nodes)) (make (grow [] (take used nodes)) node ∷ []) (leaf 0 0) k (omega arith)

  new : tree (set nodes used node) (used + 1) used ≡ make (grow [] (take used nodes)) node
  new = ap (λ ts. get_or ts used (leaf 0 0)) grown ∙ get_or_push (grow [] (take used nodes)) (make (grow [] (take used nodes)) node) (leaf 0 0) used grown_length

pub push_joins : (n n' : Nodes) (node : Node) → n'.table ≡ set n.table n.used node → n'.used ≡ n.used + 1 → n.used < 125 → Joined n (make (grow [] (take n.used n.table)) node) 1 n.used n'
push_joins n n' node e f l =
    let r = n.room in
    let room : n.used < length n.table = omega arith in
    record { grown = record { used = omega arith; trees = λ k h. rw (e, f) (kept n.table n.used node room k h) }; below = omega arith; tree = rw (e, f) (new n.table n.used node room); added = f }
