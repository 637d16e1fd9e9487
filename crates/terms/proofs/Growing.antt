-- What is named stays while nodes are added.
use Rattle.std.proofs.Common.{◌≡◌, ℕ, List, [], ◌∷◌, Some, None, Option, refl, ap, ◌∙◌, arith}
use Rattle.terms.specs.Names.{known, Below, Framed}
use Rattle.terms.specs.Reader.{opened}
use Rattle.terms.specs.Table.{at, Grown}
use Rattle.terms.specs.declared.nodes.Nodes.{Nodes}
use Rattle.terms.specs.declared.term.reader.Frame.{Frame}

module _ (n n' : Nodes) (g : Grown n n') where
  pub below_grown : (o : Option ℕ) → Below n.used o → Below n'.used o
  below_grown None h = tt
  below_grown (Some k) h = let more = g.used in omega arith

  pub framed_grown : (fs : List Frame) → Framed n.used fs → Framed n'.used fs
  framed_grown [] h = tt
  framed_grown (f ∷ fs) h = ((below_grown f.sum h.0.0, below_grown f.product h.0.1), framed_grown fs h.1)

  pub known_grown : (o : Option ℕ) → Below n.used o → known (at n') o ≡ known (at n) o
  known_grown None h = refl
  known_grown (Some k) h = ap Some (g.trees k h)

  pub opened_grown : (fs : List Frame) → Framed n.used fs → opened (at n') fs ≡ opened (at n) fs
  opened_grown [] h = refl
  opened_grown (f ∷ fs) h =
      let a = known_grown f.sum h.0.0 in
      let b = known_grown f.product h.0.1 in
      let c = opened_grown fs h.1 in
      λ i. record { sum = a i; product = b i } ∷ c i

pub grown_grown : (n n' n'' : Nodes) → Grown n n' → Grown n' n'' → Grown n n''
grown_grown n n' n'' g h =
    let a = g.used in
    let b = h.used in
    record { used = omega arith; trees = λ k l. h.trees k (omega arith) ∙ g.trees k l }
