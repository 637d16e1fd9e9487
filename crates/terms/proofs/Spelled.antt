-- What is put together is what the text spells.
use Rattle.std.proofs.Common.{◌≡◌, ℕ, ◌+◌, true, List, [], ◌∷◌, ◌++◌, Some, None, Option, sym, refl, ◌∙◌, subst, append_assoc, append-nil, add_assoc, add-one}
use Rattle.terms.specs.Syntax.{Tree, leaf, size}
use Rattle.terms.specs.Grammar.{Level, sum, product, operand, Spells, action, bracket, one_operand, more_operands, one_product, more_products}
use Rattle.terms.specs.Scan.{is_action}
use Rattle.terms.specs.Assembly.{Place, ahead, past, Opened, Partial, start, plus, times, action_of, feed, feeds, then_feeds}
use Rattle.terms.proofs.Letters.{action_letter}
use Rattle.terms.proofs.Feeding.{Fed, acted, opening, adding, going_on, closing, fed}

-- A sum so far with its '+', behind i actions; j actions stand before what follows.
data Led : Level → ℕ → Option Tree → ℕ → List ℕ → Type 0 where
  none : {l : Level} {i : ℕ} → Led l i None i []
  sums : {i : ℕ} {xs : List ℕ} {t : Tree} → Spells sum i xs t → Led sum i (Some t) (i + size t) (xs ++ 43 ∷ [])
  products : {i : ℕ} {xs : List ℕ} {t : Tree} → Spells product i xs t → Led product i (Some t) (i + size t) (xs ++ 46 ∷ [])

-- The text before the innermost open bracket's content.
data Nested : List Opened → ℕ → List ℕ → Type 0 where
  top : Nested [] 0 []
  within : {bs : List Opened} {s p : Option Tree} {i j k : ℕ} {xs ys zs : List ℕ} → Nested bs i xs → Led sum i s j ys → Led product j p k zs → Nested (record { sum = s; product = p } ∷ bs) k (xs ++ (ys ++ (zs ++ 40 ∷ [])))

-- The last piece: a product that goes on, or one so far.
data Last : ℕ → Place → ℕ → List ℕ → Type 0 where
  going : {i j : ℕ} {p : Option Tree} {xs : List ℕ} → Led product i p j xs → Last i (ahead p) j xs
  resting : {i n : ℕ} {x : Tree} {xs : List ℕ} → Spells product i xs x → i + size x ≡ n → Last i (past x) n xs

-- What is put together so far, and the text that spells it.
data Spelled : Partial → List ℕ → Type 0 where
  spelled : {bs : List Opened} {s : Option Tree} {p : Place} {i j n : ℕ} {xs ys zs : List ℕ} → Nested bs i xs → Led sum i s j ys → Last j p n zs → Spelled (record { brackets = bs; sum = s; place = p; actions = n }) (xs ++ (ys ++ zs))

-- an operand behind the product that goes on with it
join_product : {i j : ℕ} {p : Option Tree} {xs ys : List ℕ} {u : Tree} → Led product i p j xs → Spells operand j ys u → (Spells product i (xs ++ ys) (times p u)) × (i + size (times p u) ≡ j + size u)
join_product none o = (one_operand o, refl)
join_product {ys = ys} {u = u} (products {i} {xs} {t} d) o = (let e = append_assoc xs (46 ∷ []) ys in rw e (more_operands d o), sym (add_assoc i (size t) (size u)))

join_sum : {i j : ℕ} {s : Option Tree} {xs ys : List ℕ} {u : Tree} → Led sum i s j xs → Spells product j ys u → (Spells sum i (xs ++ ys) (plus s u)) × (i + size (plus s u) ≡ j + size u)
join_sum none o = (one_product o, refl)
join_sum {ys = ys} {u = u} (sums {i} {xs} {t} d) o = (let e = append_assoc xs (43 ∷ []) ys in rw e (more_products d o), sym (add_assoc i (size t) (size u)))

retext : (q : Partial) (xs ys : List ℕ) → xs ≡ ys → Spelled q xs → Spelled q ys
retext q xs ys e h = subst (λ zs. Spelled q zs) e h

three : (xs ys zs : List ℕ) (c : ℕ) → xs ++ (ys ++ (zs ++ c ∷ [])) ≡ (xs ++ (ys ++ zs)) ++ c ∷ []
three xs ys zs c = simp append_assoc

-- an action
spelled_act : {bs : List Opened} {s p : Option Tree} {n : ℕ} {xs : List ℕ} (c : ℕ) → is_action c ≡ true → Spelled (record { brackets = bs; sum = s; place = ahead p; actions = n }) xs → Spelled (record { brackets = bs; sum = s; place = past (times p (leaf (action_of c) (n + 1))); actions = n + 1 }) (xs ++ c ∷ [])
spelled_act c e (spelled {bs} {s} {i = i} {j = j} {n = n} {xs = xs} {ys = ys} {zs = zs} b l (going {p = p} d)) =
    let o : Spells operand n (c ∷ []) (leaf (action_of c) (n + 1)) = rw add-one (action (action_letter c e)) in
    let h = join_product d o in
    retext _ _ _ (three xs ys zs c) (spelled b l (resting h.0 h.1))

-- '('
spelled_open : {bs : List Opened} {s p : Option Tree} {n : ℕ} {xs : List ℕ} → Spelled (record { brackets = bs; sum = s; place = ahead p; actions = n }) xs → Spelled (record { brackets = record { sum = s; product = p } ∷ bs; sum = None; place = ahead None; actions = n }) (xs ++ 40 ∷ [])
spelled_open (spelled {xs = xs} {ys = ys} {zs = zs} b l (going d)) =
    retext _ _ _ (append-nil (xs ++ (ys ++ (zs ++ 40 ∷ []))) ∙ three xs ys zs 40) (spelled (within b l d) none (going none))

-- '+'
spelled_plus : {bs : List Opened} {s : Option Tree} {x : Tree} {n : ℕ} {xs : List ℕ} → Spelled (record { brackets = bs; sum = s; place = past x; actions = n }) xs → Spelled (record { brackets = bs; sum = Some (plus s x); place = ahead None; actions = n }) (xs ++ 43 ∷ [])
spelled_plus (spelled {bs = bs} {s = s} {n = n} {xs = xs} {ys = ys} {zs = zs} b l (resting {x = x} d c)) =
    let h = join_sum l d in
    let e : xs ++ (((ys ++ zs) ++ 43 ∷ []) ++ []) ≡ (xs ++ (ys ++ zs)) ++ 43 ∷ [] = simp (append-nil, append_assoc) in
    retext _ _ _ e (subst (λ m. Spelled (record { brackets = bs; sum = Some (plus s x); place = ahead None; actions = m }) (xs ++ (((ys ++ zs) ++ 43 ∷ []) ++ []))) (h.1 ∙ c) (spelled b (sums h.0) (going none)))

-- '.'
spelled_dot : {bs : List Opened} {s : Option Tree} {x : Tree} {n : ℕ} {xs : List ℕ} → Spelled (record { brackets = bs; sum = s; place = past x; actions = n }) xs → Spelled (record { brackets = bs; sum = s; place = ahead (Some x); actions = n }) (xs ++ 46 ∷ [])
spelled_dot (spelled {bs = bs} {s = s} {xs = xs} {ys = ys} {zs = zs} b l (resting {x = x} d c)) =
    retext _ _ _ (three xs ys zs 46) (subst (λ m. Spelled (record { brackets = bs; sum = s; place = ahead (Some x); actions = m }) (xs ++ (ys ++ (zs ++ 46 ∷ [])))) c (spelled b l (going (products d))))

-- ')'
spelled_close : {bs : List Opened} {s s' p' : Option Tree} {x : Tree} {n : ℕ} {xs : List ℕ} → Spelled (record { brackets = record { sum = s'; product = p' } ∷ bs; sum = s; place = past x; actions = n }) xs → Spelled (record { brackets = bs; sum = s'; place = past (times p' (plus s x)); actions = n }) (xs ++ 41 ∷ [])
spelled_close (spelled {ys = ys} {zs = zs} (within {xs = us} {ys = vs} {zs = ws} b l d) m (resting e c)) =
    let h = join_sum m e in
    let k = join_product d (bracket h.0) in
    let re : us ++ (vs ++ (ws ++ (40 ∷ ((ys ++ zs) ++ 41 ∷ [])))) ≡ ((us ++ (vs ++ (ws ++ 40 ∷ []))) ++ (ys ++ zs)) ++ 41 ∷ [] = simp append_assoc in
    retext _ _ _ re (spelled b l (resting k.0 (k.1 ∙ (h.1 ∙ c))))

spelled_fed : {q : Partial} {c : ℕ} {q' : Partial} {xs : List ℕ} → Fed q c q' → Spelled q xs → Spelled q' (xs ++ c ∷ [])
spelled_fed (acted c e) h = spelled_act c e h
spelled_fed opening h = spelled_open h
spelled_fed adding h = spelled_plus h
spelled_fed going_on h = spelled_dot h
spelled_fed closing h = spelled_close h

spelled_feeds : (q q' : Partial) (xs ys : List ℕ) → Spelled q xs → feeds q ys ≡ Some q' → Spelled q' (xs ++ ys)
spelled_feeds q q' xs [] h e = let f : q ≡ q' = cc in rw (append-nil xs) (subst (λ z. Spelled z xs) f h)
spelled_feeds q q' xs (c ∷ ys) h e = go (λ z k f. spelled_feeds z q' (xs ++ c ∷ []) ys k f) (feed q c) refl e
  where
    go : ((z : Partial) → Spelled z (xs ++ c ∷ []) → feeds z ys ≡ Some q' → Spelled q' ((xs ++ c ∷ []) ++ ys)) → (o : Option Partial) → feed q c ≡ o → then_feeds o (λ z. feeds z ys) ≡ Some q' → Spelled q' (xs ++ c ∷ ys)
    go rest None f k = cc
    go rest (Some z) f k = let r = append_assoc xs (c ∷ []) ys in rw (← r) (rest z (spelled_fed (fed q z c f) h) k)

whole : (s : Option Tree) (x : Tree) (n : ℕ) (xs : List ℕ) → Spelled (record { brackets = []; sum = s; place = past x; actions = n }) xs → Spells sum 0 xs (plus s x)
whole s x n xs (spelled top l (resting d c)) = (join_sum l d).0

-- a text that ends behind an operand with no bracket open
pub text_spelled : (s : Option Tree) (x : Tree) (n : ℕ) (text : List ℕ) → feeds start text ≡ Some (record { brackets = []; sum = s; place = past x; actions = n }) → Spells sum 0 text (plus s x)
text_spelled s x n text e = whole s x n text (spelled_feeds start (record { brackets = []; sum = s; place = past x; actions = n }) [] text (spelled top none (going none)) e)
