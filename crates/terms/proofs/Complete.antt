-- What a text spells is put together when it is read.
use Rattle.std.proofs.Common.{◌≡◌, ℕ, ◌+◌, List, [], ◌∷◌, ◌++◌, Some, None, Option, refl, ap, ◌∙◌, append_assoc, append-nil, add_assoc, zero-add, add-one}
use Rattle.terms.specs.Syntax.{Tree, sequence, size}
use Rattle.terms.specs.Grammar.{Level, sum, product, operand, Spells, action, bracket, one_operand, more_operands, one_product, more_products}
use Rattle.terms.specs.Assembly.{ahead, past, Opened, start, plus, times, feeds}
use Rattle.terms.proofs.Feeding.{at}
use Rattle.terms.proofs.Letters.{letter_action}

-- Reading what xs spells, with ys behind it.
abbrev Put : Level → ℕ → List ℕ → Tree → Type 0
Put operand i xs t = (bs : List Opened) (s p : Option Tree) (ys : List ℕ) → feeds (at bs s (ahead p) i) (xs ++ ys) ≡ feeds (at bs s (past (times p t)) (i + size t)) ys
Put product i xs t = (bs : List Opened) (s : Option Tree) (ys : List ℕ) → feeds (at bs s (ahead None) i) (xs ++ ys) ≡ feeds (at bs s (past t) (i + size t)) ys
Put sum i xs t = (s : Option Tree) × (x : Tree) × (plus s x ≡ t) × ((bs : List Opened) (ys : List ℕ) → feeds (at bs None (ahead None) i) (xs ++ ys) ≡ feeds (at bs s (past x) (i + size t)) ys)

put : {l : Level} {i : ℕ} {xs : List ℕ} {t : Tree} → Spells l i xs t → Put l i xs t
put (action {i} {c} {a} l) =
    λ bs s p ys. let e = letter_action l in
    rw e.0 (rw e.1 (rw add-one refl))
put (bracket {i} {xs} {t} d) =
    λ bs s p ys. let h = put d in
    let o : List Opened = record { sum = s; product = p } ∷ bs in
    let inner = h.3 o (41 ∷ ys) in
    let re : (xs ++ 41 ∷ []) ++ ys ≡ xs ++ (41 ∷ ys) = append_assoc xs (41 ∷ []) ys in
    ap (λ zs. feeds (at o None (ahead None) i) zs) re ∙ (inner ∙ ap (λ v. feeds (at bs s (past (times p v)) (i + size t)) ys) h.2)
put (one_operand {i} {xs} {t} d) = λ bs s ys. put d bs s None ys
put (more_operands {i} {xs} {ys} {t} {u} d e) =
    λ bs s zs. let re : (xs ++ 46 ∷ ys) ++ zs ≡ xs ++ (46 ∷ (ys ++ zs)) = append_assoc xs (46 ∷ ys) zs in
    ap (λ ws. feeds (at bs s (ahead None) i) ws) re ∙ (put d bs s (46 ∷ (ys ++ zs)) ∙ (put e bs s (Some t) zs ∙ ap (λ n. feeds (at bs s (past (sequence t u)) n) zs) (add_assoc i (size t) (size u))))
put (one_product {i} {xs} {t} d) = (None, t, refl, λ bs ys. put d bs None ys)
put (more_products {i} {xs} {ys} {t} {u} d e) =
    let h = put d in (
      Some t,
      u,
      refl,
      λ bs zs. let re : (xs ++ 43 ∷ ys) ++ zs ≡ xs ++ (43 ∷ (ys ++ zs)) = append_assoc xs (43 ∷ ys) zs in
          ap (λ ws. feeds (at bs None (ahead None) i) ws) re ∙ (h.3 bs (43 ∷ (ys ++ zs)) ∙ (ap (λ v. feeds (at bs (Some v) (ahead None) (i + size t)) (ys ++ zs)) h.2 ∙ (put e bs (Some t) zs ∙ ap (λ n. feeds (at bs (Some t) (past u) n) zs) (add_assoc i (size t) (size u))))),
    )

-- reading a whole text
pub text_put : (text : List ℕ) (t : Tree) → Spells sum 0 text t → (s : Option Tree) × (x : Tree) × (plus s x ≡ t) × (feeds start text ≡ Some (record { brackets = []; sum = s; place = past x; actions = size t }))
text_put text t d =
    let h = put d in
    let e = h.3 [] [] in
    let n : 0 + size t ≡ size t = zero-add (size t) in
    (h.0, h.1, h.2, rw (append-nil text, n) at e)
