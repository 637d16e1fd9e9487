-- The trees of a table of nodes: each node's tree is made of those of its children.
use Rattle.std.proofs.Common.{◌≡◌, ℕ, zero, suc, ◌+◌, ◌<◌, List, [], ◌∷◌, ◌++◌, length, get_or, take, sym, refl, ◌∙◌, subst, arith}
use Rattle.std.proofs.lemmas.List.{get_or_append_left, get_or_past, get_or_push, get_or-take, length_push}
use Rattle.terms.specs.Syntax.{Tree, leaf, choice, sequence}
use Rattle.terms.specs.Nodes.{make, grow, Lower}
use Rattle.terms.specs.Table.{at as tree_at}
use Rattle.terms.specs.declared.nodes.Nodes.{Nodes}
use Rattle.terms.specs.declared.node.Node.{Node}
use Rattle.terms.specs.declared.node.Node.TheVariants.{Action, Choice, Sequence}

abbrev at : List Tree → ℕ → Tree
at trees k = get_or trees k (leaf 0 0)

-- later nodes leave the earlier trees as they are
grow_keeps : (nodes : List Node) (trees : List Tree) (k : ℕ) → k < length trees → at (grow trees nodes) k ≡ at trees k
grow_keeps [] trees k h = refl
grow_keeps (n ∷ nodes) trees k h =
    grow_keeps nodes (trees ++ make trees n ∷ []) k (omega (arith, length_push trees (make trees n))) ∙ get_or_append_left trees (make trees n ∷ []) (leaf 0 0) k h

-- the tree at place k is made of those before it
abbrev Made : List Tree → Node → ℕ → Type 0
Made trees n k = (before : List Tree) × (at trees k ≡ make before n) × ((x : ℕ) → x < k → at before x ≡ at trees x)

grow_makes : (nodes : List Node) (trees : List Tree) (m k : ℕ) → k ≡ length trees + m → Made (grow trees nodes) (get_or nodes m (Action 0 0)) k
grow_makes [] trees m k e = (trees, get_or_past trees k (leaf 0 0) (omega arith), λ x h. refl)
grow_makes (n ∷ nodes) trees zero k e =
    let pushed = length_push trees (make trees n) in
    let here = grow_keeps nodes (trees ++ make trees n ∷ []) k (omega arith) in
    (trees, here ∙ get_or_push trees (make trees n) (leaf 0 0) k (omega arith), λ x h. sym (grow_keeps (n ∷ nodes) trees x (omega arith)))
grow_makes (n ∷ nodes) trees (suc m) k e =
    grow_makes nodes (trees ++ make trees n ∷ []) m k (omega (arith, length_push trees (make trees n)))

-- what a node says of its tree
abbrev pub Tells : Nodes → ℕ → Node → Type 0
Tells nodes k (Action a i) = tree_at nodes k ≡ leaf a i
Tells nodes k (Choice x y) = (x < k) × (y < k) × (tree_at nodes k ≡ choice (tree_at nodes x) (tree_at nodes y))
Tells nodes k (Sequence x y) = (x < k) × (y < k) × (tree_at nodes k ≡ sequence (tree_at nodes x) (tree_at nodes y))

tells_made : (nodes : Nodes) (k : ℕ) (n : Node) → Lower k n → Made (grow [] (take nodes.used nodes.table)) n k → Tells nodes k n
tells_made nodes k (Action a i) l m = m.1
tells_made nodes k (Choice x y) l m = (l.0, l.1, cc (m.1, m.2 x l.0, m.2 y l.1))
tells_made nodes k (Sequence x y) l m = (l.0, l.1, cc (m.1, m.2 x l.0, m.2 y l.1))

pub tells : (nodes : Nodes) (k : ℕ) (n : Node) → k < nodes.used → get_or nodes.table k (Action 0 0) ≡ n → Tells nodes k n
tells nodes k n h e =
    let made = grow_makes (take nodes.used nodes.table) [] k k (omega arith) in
    subst (Tells nodes k) e (tells_made nodes k (get_or nodes.table k (Action 0 0)) (nodes.falls k h) (rw (get_or-take nodes.used nodes.table k (Action 0 0) h) at made))
