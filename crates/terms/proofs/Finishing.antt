-- The end of a text.
use Rattle.std.proofs.Common.{◌≡◌, ℕ, zero, suc, List, [], length, refl, ap, ◌∙◌}
use Rattle.terms.specs.Syntax.{Tree, size, Numbered}
use Rattle.terms.specs.Assembly.{past, plus}
use Rattle.terms.specs.Names.{known, one, stacked}
use Rattle.terms.specs.Reader.{partial, place, opened, Counted}
use Rattle.terms.specs.Table.{at, Joined}
use Rattle.terms.specs.declared.nodes.Nodes.{Nodes}
use Rattle.terms.specs.declared.term.reader.Frame.{Frame}
use Rattle.terms.specs.declared.term.reader.Reader.{Reader}
use Rattle.terms.specs.declared.term.reader.Position.TheVariants.{Behind}
use Rattle.terms.proofs.Moves.{same_partial}

length_stacked : (f : ℕ → Tree) (fs : List Frame) (n : ℕ) → length (opened f (stacked fs n)) ≡ n
length_stacked f fs zero = refl
length_stacked f fs (suc n) = ap suc (length_stacked f fs n)

pub depth_is : (r : Reader) → length (partial r).brackets ≡ r.depth
depth_is r = length_stacked (at r.nodes) r.frames r.depth

-- behind an operand with no bracket open
whole : (r : Reader) (x : ℕ) → r.position ≡ Behind x → r.depth ≡ 0 → partial r ≡ record { brackets = []; sum = (partial r).sum; place = past (at r.nodes x); actions = r.actions }
whole r x e o = same_partial (ap (λ n. opened (at r.nodes) (stacked r.frames n)) o) refl (ap (place (at r.nodes)) e) refl

-- the term that was read whole
module _ (r : Reader) (n : Nodes) (x k : ℕ) (c : Counted (partial r)) (e : r.position ≡ Behind x) (o : r.depth ≡ 0) (j : Joined r.nodes (plus (known (at r.nodes) r.sum) (at r.nodes x)) (one r.sum) k n) where
  pub end_size : size (at n k) ≡ r.actions
  end_size = ap size j.tree ∙ (c (partial r).sum (at r.nodes x) r.actions (whole r x e o)).0

  pub end_order : Numbered 0 (at n k)
  end_order = rw j.tree ((c (partial r).sum (at r.nodes x) r.actions (whole r x e o)).1)
