-- Numbered classes: their number is that of the first members.
use Rattle.std.proofs.Common.{◌≡◌, ℕ, zero, suc, ◌<◌, ◌≤◌, Bool, true, false, ◌&&◌, eqb, ltb, ◌↔◌, sym, refl, ap, ◌∙◌, arith}
use Rattle.std.proofs.lemmas.Bool.{and_parts, and_from, and_right, eqb-true, eq-eqb, ltb-true, lt-ltb, le-ltb}
use Rattle.theory.specs.Classes.{number, Numbers}
use Rattle.theory.proofs.Counting.{bool_same, number_le, number_same, number_none, number_more}
use Rattle.theory.proofs.Firsts.{Equivalence, first, First, first_decided, lead, leader, leader_one, firsts, firsts_rise, firsts_same}

-- equal numbers
abbrev pub by : (ℕ → ℕ) → ℕ → ℕ → Bool
by n s t = eqb (n s) (n t)

pub by_equivalence : (n : ℕ → ℕ) → Equivalence (by n)
by_equivalence n =
    record {
      reflexive = λ s. eq-eqb (n s) (n s) refl;
      symmetric = λ s t e. eq-eqb (n t) (n s) (sym (eqb-true (n s) (n t) e));
      transitive = λ s t u d e. eq-eqb (n s) (n u) (eqb-true (n s) (n t) d ∙ eqb-true (n t) (n u) e);
    }

-- the first members with a number below c
abbrev part : (ℕ → Bool) → (ℕ → ℕ) → ℕ → ℕ → Bool
part live n c s = first live (by n) s && ltb (n s) c

module _ (live : ℕ → Bool) (size : ℕ) (inside : (s : ℕ) → live s ≡ true → s < size) where
  -- number c has one first member
  part_more : (n : ℕ → ℕ) (c f : ℕ) → First live (by n) f → n f ≡ c → number (part live n (suc c)) size ≡ suc (number (part live n c) size)
  part_more n c f h is = number_more (part live n c) (part live n (suc c)) f size (inside f h.0) before after others
    where
      before : part live n c f ≡ false
      before = and_right (first live (by n) f) (ltb (n f) c) (le-ltb (n f) c (omega arith))

      after : part live n (suc c) f ≡ true
      after = and_from (first live (by n) f) (ltb (n f) (suc c)) ((first_decided live (by n) f).1 h) (lt-ltb (n f) (suc c) (omega arith))

      others : (s : ℕ) → (s ≡ f → ⊥) → part live n c s ≡ part live n (suc c) s
      others s ne = bool_same (part live n c s) (part live n (suc c) s) up down
        where
          up : part live n c s ≡ true → part live n (suc c) s ≡ true
          up e =
              let r = and_parts (first live (by n) s) (ltb (n s) c) e in
              and_from (first live (by n) s) (ltb (n s) (suc c)) r.0 (lt-ltb (n s) (suc c) (omega (arith, ltb-true (n s) c r.1)))

          down : part live n (suc c) s ≡ true → part live n c s ≡ true
          down e =
              let r = and_parts (first live (by n) s) (ltb (n s) (suc c)) e in
              let g = (first_decided live (by n) s).0 r.0 in
              let other : n s ≡ n f → ⊥ = λ d. ne (leader_one live (by n) (by_equivalence n) s f g h (eq-eqb (n s) (n f) d)) in
              and_from (first live (by n) s) (ltb (n s) c) r.0 (lt-ltb (n s) c (omega (arith, ltb-true (n s) (suc c) r.1)))

  module _ (Same : ℕ → ℕ → Type 0) (K : ℕ) (n : ℕ → ℕ) (numbers : Numbers live Same K n) where
    part_count : (c : ℕ) → c ≤ K → number (part live n c) size ≡ c
    part_count zero l =
        number_none (part live n 0) size (λ s _ e. omega (arith, ltb-true (n s) 0 (and_parts (first live (by n) s) (ltb (n s) 0) e).1))
    part_count (suc c) l =
        let o = numbers.occurs c l in
        let f = lead live (by n) o.0 in
        let is = leader live (by n) (by_equivalence n) o.0 o.1 in
        part_more n c f is.0 (eqb-true (n f) (n o.0) is.1 ∙ o.2) ∙ ap suc (part_count c (omega arith))

    -- there are as many classes as first members
    pub count_firsts : firsts live (by n) size ≡ K
    count_firsts = number_same (first live (by n)) (part live n K) size (λ s _. whole s) ∙ part_count K (omega arith)
      where
        whole : (s : ℕ) → first live (by n) s ≡ part live n K s
        whole s =
            let f = first live (by n) s in
            let low : f ≡ true → n s < K = λ e. numbers.below s ((first_decided live (by n) s).0 e).0 in
            bool_same f (part live n K s) (λ e. and_from f (ltb (n s) K) e (lt-ltb (n s) K (low e))) (λ e. (and_parts f (ltb (n s) K) e).0)

    -- and no more than members
    pub count_few : K ≤ number live size
    count_few = omega (arith, count_firsts, number_le (first live (by n)) live size (λ s _ e. ((first_decided live (by n) s).0 e).0))

  -- two numberings, the second by a finer relation
  module _ (Coarse Fine : ℕ → ℕ → Type 0) (finer : (s t : ℕ) → live s ≡ true → live t ≡ true → Fine s t → Coarse s t) (K L : ℕ) (n o : ℕ → ℕ) (ns : Numbers live Coarse K n) (os : Numbers live Fine L o) where
    by_finer : (s t : ℕ) → live s ≡ true → live t ≡ true → by o s t ≡ true → by n s t ≡ true
    by_finer s t x y e =
        eq-eqb (n s) (n t) ((ns.equal s t x y).1 (finer s t x y ((os.equal s t x y).0 (eqb-true (o s) (o t) e))))

    pub count_rises : K ≤ L
    count_rises = omega (arith, count_firsts Coarse K n ns, count_firsts Fine L o os, firsts_rise live size inside (by n) (by o) by_finer)

    pub count_same : L ≤ K → (s t : ℕ) → live s ≡ true → live t ≡ true → Coarse s t → Fine s t
    count_same l s t x y h =
        let few : firsts live (by o) size ≤ firsts live (by n) size = omega (arith, count_firsts Coarse K n ns, count_firsts Fine L o os) in
        let e = firsts_same live size inside (by n) (by o) by_finer (by_equivalence n) (by_equivalence o) few s t x y (eq-eqb (n s) (n t) ((ns.equal s t x y).1 h)) in
        (os.equal s t x y).0 (eqb-true (o s) (o t) e)

  -- two numberings of one relation on the set
  pub count_determined : (Same Same' : ℕ → ℕ → Type 0) → ((s t : ℕ) → live s ≡ true → live t ≡ true → Same s t ↔ Same' s t) → (K L : ℕ) (n o : ℕ → ℕ) → Numbers live Same K n → Numbers live Same' L o → K ≡ L
  count_determined Same Same' iff K L n o ns os =
      omega (arith, count_rises Same Same' (λ s t x y. (iff s t x y).1) K L n o ns os, count_rises Same' Same (λ s t x y. (iff s t x y).0) L K o n os ns)
