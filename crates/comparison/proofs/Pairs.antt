-- The pairs that a list of steps reaches.
use Rattle.std.proofs.Common.{◌≡◌, ℕ, ◌+◌, ◌≤◌, Bool, true, false, ◌&&◌, ◌||◌, eqb, List, [], ◌∷◌, ◌++◌, length, take, Some, sym, refl, ap, ◌∙◌, subst, inl, inr, ⊎_elim}
use Rattle.std.specs.List.{slice_get}
use Rattle.std.proofs.lemmas.List.{take_more, take_all}
use Rattle.std.proofs.lemmas.Bool.{and_parts, and_from, or_cases, or_left, or_right, eqb-true, eq-eqb, false≢true}
use Rattle.lts.specs.Meaning.{In}
use Rattle.lts.specs.Laws.Member.{nth_is, nth_inside}
use Rattle.comparison.specs.Reach.{hits}

-- a pair that is reached is reached by a step
pub hits_in : (n : ℕ → ℕ) (a c : ℕ) (xs : List (ℕ × ℕ)) → hits n a c xs ≡ true → (u : ℕ) × In (a, u) xs × (n u ≡ c)
hits_in n a c [] e = absurd (false≢true e)
hits_in n a c (x ∷ xs) e = ⊎_elim here (λ h. later (hits_in n a c xs h)) (or_cases (eqb x.0 a && eqb (n x.1) c) (hits n a c xs) e)
  where
    here : (eqb x.0 a && eqb (n x.1) c) ≡ true → (u : ℕ) × In (a, u) (x ∷ xs) × (n u ≡ c)
    here h =
        let r = and_parts (eqb x.0 a) (eqb (n x.1) c) h in
        (x.1, inl (ap (λ (v : ℕ). (v, x.1)) (sym (eqb-true x.0 a r.0))), eqb-true (n x.1) c r.1)

    later : (u : ℕ) × In (a, u) xs × (n u ≡ c) → (u : ℕ) × In (a, u) (x ∷ xs) × (n u ≡ c)
    later r = (r.0, inr r.1, r.2)

pub in_hits : (n : ℕ → ℕ) (a c u : ℕ) (xs : List (ℕ × ℕ)) → In (a, u) xs → n u ≡ c → hits n a c xs ≡ true
in_hits n a c u [] i e = absurd i
in_hits n a c u (x ∷ xs) (inl h) e =
    let p : x.0 ≡ a = ap (λ (v : ℕ × ℕ). v.0) (sym h) in
    let q : n x.1 ≡ c = ap (λ (v : ℕ × ℕ). n v.1) (sym h) ∙ e in
    or_left (eqb x.0 a && eqb (n x.1) c) (hits n a c xs) (and_from (eqb x.0 a) (eqb (n x.1) c) (eq-eqb x.0 a p) (eq-eqb (n x.1) c q))
in_hits n a c u (x ∷ xs) (inr i) e = or_right (eqb x.0 a && eqb (n x.1) c) (hits n a c xs) (in_hits n a c u xs i e)

or_assoc : (x y z : Bool) → (x || (y || z)) ≡ ((x || y) || z)
or_assoc true y z = refl
or_assoc false y z = refl

or_none : (x : Bool) → (x || false) ≡ x
or_none true = refl
or_none false = refl

pub hits_push : (n : ℕ → ℕ) (a c : ℕ) (xs : List (ℕ × ℕ)) (x : ℕ × ℕ) → hits n a c (xs ++ x ∷ []) ≡ (hits n a c xs || (eqb x.0 a && eqb (n x.1) c))
hits_push n a c [] x = or_none (eqb x.0 a && eqb (n x.1) c)
hits_push n a c (y ∷ xs) x =
    let z = eqb y.0 a && eqb (n y.1) c in
    ap (λ (b : Bool). z || b) (hits_push n a c xs x) ∙ or_assoc z (hits n a c xs) (eqb x.0 a && eqb (n x.1) c)

-- one step more
pub take_listed : (xs : List (ℕ × ℕ)) (k : ℕ) (x : ℕ × ℕ) → Some x ≡ slice_get xs k → take (k + 1) xs ≡ take k xs ++ x ∷ []
take_listed xs k x e =
    take_more xs k (0, 0) (nth_inside x xs k (sym e)) ∙ ap (λ (y : ℕ × ℕ). take k xs ++ y ∷ []) (nth_is x (0, 0) xs k (sym e))

pub hits_more : (n : ℕ → ℕ) (a c : ℕ) (xs : List (ℕ × ℕ)) (k : ℕ) (x : ℕ × ℕ) → Some x ≡ slice_get xs k → hits n a c (take (k + 1) xs) ≡ (hits n a c (take k xs) || (eqb x.0 a && eqb (n x.1) c))
hits_more n a c xs k x e = ap (hits n a c) (take_listed xs k x e) ∙ hits_push n a c (take k xs) x

-- a table that holds what the first steps reach, and what one more does
pub lacks_more : (n : ℕ → ℕ) (held : ℕ → ℕ → Bool) (xs : List (ℕ × ℕ)) (k a u : ℕ) → Some (a, u) ≡ slice_get xs k → held a (n u) ≡ true → ((b c : ℕ) → hits n b c (take k xs) ≡ true → held b c ≡ true) → (b c : ℕ) → hits n b c (take (k + 1) xs) ≡ true → held b c ≡ true
lacks_more n held xs k a u at here before b c e =
    ⊎_elim (before b c) last (or_cases (hits n b c (take k xs)) (eqb a b && eqb (n u) c) (sym (hits_more n b c xs k (a, u) at) ∙ e))
  where
    last : (eqb a b && eqb (n u) c) ≡ true → held b c ≡ true
    last h =
        let r = and_parts (eqb a b) (eqb (n u) c) h in
        subst (λ (x : ℕ). held x c ≡ true) (eqb-true a b r.0) (subst (λ (y : ℕ). held a y ≡ true) (eqb-true (n u) c r.1) here)

pub take_whole : (xs : List (ℕ × ℕ)) (k : ℕ) → length xs ≤ k → take k xs ≡ xs
take_whole xs k l = take_all k xs l
