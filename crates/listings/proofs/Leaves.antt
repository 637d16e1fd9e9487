-- The steps of a term are by the actions written in it.
use Rattle.std.proofs.Common.{◌≡◌, ℕ, List, [], ◌∷◌, ◌++◌, map, Some, None, Option, refl, subst, inl, inr, ⊎_elim, arith}
use Rattle.std.specs.List.{slice_get}
use Rattle.lts.specs.Meaning.{In}
use Rattle.lts.specs.Laws.Member.{in_left, in_right, in_either, from_map, nth_in}
use Rattle.terms.specs.Graph.{graph, followed, rests, contents, firsts, leads}
use Rattle.terms.specs.Syntax.{Tree, leaf, choice, sequence, Rest, done, left}

-- the actions written in a term, each with its place
abbrev pub leaves : Tree → List (ℕ × ℕ)
leaves (leaf a i) = (a, i) ∷ []
leaves (choice x y) = leaves x ++ leaves y
leaves (sequence x y) = leaves x ++ leaves y

-- what is written in x is written in t
abbrev Within : Tree → Tree → Type 0
Within x t = (p : ℕ × ℕ) → In p (leaves x) → In p (leaves t)

firsts_leaves : (t : Tree) (p : ℕ × ℕ) → In p (firsts t) → In p (leaves t)
firsts_leaves (leaf a i) p h = h
firsts_leaves (choice x y) p h =
    ⊎_elim (λ k. in_left p (leaves x) (leaves y) (firsts_leaves x p k)) (λ k. in_right p (leaves x) (leaves y) (firsts_leaves y p k)) (in_either p (firsts x) (firsts y) h)
firsts_leaves (sequence x y) p h = in_left p (leaves x) (leaves y) (firsts_leaves x p h)

followed_within : (x y z : Tree) (r : Rest Tree) → In r (rests x) → left z ≡ followed y r → ((x' : Tree) → In (left x') (rests x) → Within x' x) → Within z (sequence x y)
followed_within x y z done h e inner p k =
    let q : z ≡ y = cc in
    in_right p (leaves x) (leaves y) (subst (λ t. In p (leaves t)) q k)
followed_within x y z (left x') h e inner p k =
    let q : z ≡ sequence x' y = cc in
    ⊎_elim (λ l. in_left p (leaves x) (leaves y) (inner x' h p l)) (in_right p (leaves x) (leaves y)) (in_either p (leaves x') (leaves y) (subst (λ t. In p (leaves t)) q k))

rests_within : (t z : Tree) → In (left z) (rests t) → Within z t
rests_within (leaf a i) z (inl e) = let n : ◌≡◌ {A = ℕ} 0 1 = cc in let b : ⊥ = omega arith in absurd b
rests_within (leaf a i) z (inr h) = absurd h
rests_within (choice x y) z h =
    ⊎_elim (λ k p l. in_left p (leaves x) (leaves y) (rests_within x z k p l)) (λ k p l. in_right p (leaves x) (leaves y) (rests_within y z k p l)) (in_either (left z) (rests x) (rests y) h)
rests_within (sequence x y) z h =
    ⊎_elim (λ k. let r = from_map (followed y) (left z) (rests x) k in followed_within x y z r.0 r.1 r.2 (rests_within x)) (λ k p l. in_right p (leaves x) (leaves y) (rests_within y z k p l)) (in_either (left z) (map (followed y) (rests x)) (rests y) h)

contents_within : (t z : Tree) → In (left z) (contents t) → Within z t
contents_within t z (inl e) = let q : z ≡ t = cc in λ p k. subst (λ x. In p (leaves x)) q k
contents_within t z (inr h) = rests_within t z h

pub steps_leaves : (t : Tree) (s : ℕ) (p : ℕ × ℕ) → In p ((graph t).steps s) → In p (leaves t)
steps_leaves t s p h = go (slice_get (contents t) s) refl h
  where
    go : (o : Option (Rest Tree)) → slice_get (contents t) s ≡ o → In p (leads o) → In p (leaves t)
    go None e k = absurd k
    go (Some done) e k = absurd k
    go (Some (left x)) e k = contents_within t x (nth_in (left x) (contents t) s e) p (firsts_leaves x p k)
