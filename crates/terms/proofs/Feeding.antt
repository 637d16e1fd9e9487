-- What one byte does to the term put together so far, case by case.
use Rattle.std.proofs.Common.{◌≡◌, ℕ, ◌+◌, Bool, true, false, eqb, List, [], ◌∷◌, Some, None, Option, sym, refl, subst}
use Rattle.std.proofs.lemmas.Bool.{eqb-true}
use Rattle.terms.specs.Syntax.{Tree, leaf}
use Rattle.terms.specs.Scan.{is_action}
use Rattle.terms.specs.Assembly.{Place, ahead, past, Opened, Partial, plus, times, action_of, closed, feed}

abbrev pub at : List Opened → Option Tree → Place → ℕ → Partial
at bs s p n = record { brackets = bs; sum = s; place = p; actions = n }

pub data Fed : Partial → ℕ → Partial → Type 0 where
  acted : {bs : List Opened} {s p : Option Tree} {n : ℕ} (c : ℕ) → is_action c ≡ true → Fed (at bs s (ahead p) n) c (at bs s (past (times p (leaf (action_of c) (n + 1)))) (n + 1))
  opening : {bs : List Opened} {s p : Option Tree} {n : ℕ} → Fed (at bs s (ahead p) n) 40 (at (record { sum = s; product = p } ∷ bs) None (ahead None) n)
  adding : {bs : List Opened} {s : Option Tree} {x : Tree} {n : ℕ} → Fed (at bs s (past x) n) 43 (at bs (Some (plus s x)) (ahead None) n)
  going_on : {bs : List Opened} {s : Option Tree} {x : Tree} {n : ℕ} → Fed (at bs s (past x) n) 46 (at bs s (ahead (Some x)) n)
  closing : {bs : List Opened} {s s' p' : Option Tree} {x : Tree} {n : ℕ} → Fed (at (record { sum = s'; product = p' } ∷ bs) s (past x) n) 41 (at bs s' (past (times p' (plus s x))) n)

-- the byte is the one that was tested for
onto : {q r q' : Partial} (c d : ℕ) → eqb c d ≡ true → Some r ≡ Some q' → Fed q d r → Fed q c q'
onto {q} {r} {q'} c d e f h =
    let g : r ≡ q' = cc in
    let k : d ≡ c = sym (eqb-true c d e) in
    subst (λ z. Fed q c z) g (subst (λ z. Fed q z r) k h)

fed_close : (bs : List Opened) (s : Option Tree) (x : Tree) (n c : ℕ) (q' : Partial) → eqb c 41 ≡ true → closed bs (plus s x) n ≡ Some q' → Fed (at bs s (past x) n) c q'
fed_close [] s x n c q' f e = cc
fed_close (b ∷ bs) s x n c q' f e = onto c 41 f e closing

fed_at : (bs : List Opened) (s : Option Tree) (p : Place) (n c : ℕ) (q' : Partial) → feed (at bs s p n) c ≡ Some q' → Fed (at bs s p n) c q'
fed_at bs s (ahead p) n c q' e = go (is_action c) refl
  where
    other : is_action c ≡ false → (b : Bool) → eqb c 40 ≡ b → Fed (at bs s (ahead p) n) c q'
    other f true g = onto c 40 g (rw (f, g) at e) opening
    other f false g = let z = rw (f, g) at e in cc

    go : (b : Bool) → is_action c ≡ b → Fed (at bs s (ahead p) n) c q'
    go true f = let k : Some (at bs s (past (times p (leaf (action_of c) (n + 1)))) (n + 1)) ≡ Some q' = rw f at e in let g : at bs s (past (times p (leaf (action_of c) (n + 1)))) (n + 1) ≡ q' = cc in subst (λ z. Fed (at bs s (ahead p) n) c z) g (acted c f)
    go false f = other f (eqb c 40) refl
fed_at bs s (past x) n c q' e = plused (eqb c 43) refl
  where
    closes : eqb c 43 ≡ false → eqb c 46 ≡ false → (b : Bool) → eqb c 41 ≡ b → Fed (at bs s (past x) n) c q'
    closes f g true h = fed_close bs s x n c q' h (rw (f, g, h) at e)
    closes f g false h = let z = rw (f, g, h) at e in cc

    dots : eqb c 43 ≡ false → (b : Bool) → eqb c 46 ≡ b → Fed (at bs s (past x) n) c q'
    dots f true g = onto c 46 g (rw (f, g) at e) going_on
    dots f false g = closes f g (eqb c 41) refl

    plused : (b : Bool) → eqb c 43 ≡ b → Fed (at bs s (past x) n) c q'
    plused true f = onto c 43 f (rw f at e) adding
    plused false f = dots f (eqb c 46) refl

pub fed : (q q' : Partial) (c : ℕ) → feed q c ≡ Some q' → Fed q c q'
fed q q' c e = fed_at q.brackets q.sum q.place q.actions c q' e
