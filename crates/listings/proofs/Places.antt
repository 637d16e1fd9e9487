-- Where the actions of a term stand in its text.
use Rattle.std.proofs.Common.{◌≡◌, ℕ, suc, ◌+◌, ◌<◌, Bool, true, false, List, [], ◌∷◌, ◌++◌, length, get_or, Some, sym, refl, ap, ◌∙◌, inl, inr, ⊎_elim, add-zero, arith}
use Rattle.std.specs.List.{slice_get}
use Rattle.std.proofs.lemmas.List.{length-append, get_or_append_left, get_or-append-add}
use Rattle.lts.specs.Meaning.{In}
use Rattle.lts.specs.Laws.Member.{in_either, nth_inside, nth_left, nth_right}
use Rattle.terms.specs.Grammar.{Letter, Level, Spells, sum, action, bracket, one_operand, more_operands, one_product, more_products}
use Rattle.terms.specs.Graph.{graph}
use Rattle.terms.specs.Scan.{is_action}
use Rattle.terms.specs.Syntax.{Tree, size}
use Rattle.terms.proofs.Letters.{letter_action}
use Rattle.listings.specs.Offsets.{action_offsets, from_one, Stands}
use Rattle.listings.proofs.Leaves.{leaves, steps_leaves}

offsets_append : (at : ℕ) (xs ys : List ℕ) → action_offsets at (xs ++ ys) ≡ action_offsets at xs ++ action_offsets (at + length xs) ys
offsets_append at [] ys = ap (λ n. action_offsets n ys) (sym (add-zero at))
offsets_append at (c ∷ xs) ys = go (is_action c) refl (offsets_append (at + 1) xs ys)
  where
    go : (b : Bool) → is_action c ≡ b → action_offsets (at + 1) (xs ++ ys) ≡ action_offsets (at + 1) xs ++ action_offsets (at + 1 + length xs) ys → action_offsets at (c ∷ (xs ++ ys)) ≡ action_offsets at (c ∷ xs) ++ action_offsets (at + suc (length xs)) ys
    go true e h = let n : at + 1 + length xs ≡ at + suc (length xs) = omega arith in rw e (ap (λ zs. at ∷ zs) (h ∙ ap (λ m. action_offsets (at + 1) xs ++ action_offsets m ys) n))
    go false e h = let n : at + 1 + length xs ≡ at + suc (length xs) = omega arith in rw e (h ∙ ap (λ m. action_offsets (at + 1) xs ++ action_offsets m ys) n)

-- action k of the text, counted from 0, is a; the text begins at the offset `at`
record Placed (at : ℕ) (text : List ℕ) (k a : ℕ) : Type 0 where
  offset : ℕ
  inside : offset < length text
  found : slice_get (action_offsets at text) k ≡ Some (at + offset)
  letter : Letter (get_or text offset 0) a

placed_left : (at : ℕ) (xs ys : List ℕ) (k a : ℕ) → Placed at xs k a → Placed at (xs ++ ys) k a
placed_left at xs ys k a p =
    let l = length-append xs ys in
    let i = p.inside in
    record {
      offset = p.offset;
      inside = omega arith;
      found = ap (λ zs. slice_get zs k) (offsets_append at xs ys) ∙ (nth_left (action_offsets at xs) (action_offsets (at + length xs) ys) k (nth_inside (at + p.offset) (action_offsets at xs) k p.found) ∙ p.found);
      letter = rw (get_or_append_left xs ys 0 p.offset p.inside) p.letter;
    }

placed_right : (at : ℕ) (xs ys : List ℕ) (k a : ℕ) → Placed (at + length xs) ys k a → Placed at (xs ++ ys) (length (action_offsets at xs) + k) a
placed_right at xs ys k a p =
    let l = length-append xs ys in
    let i = p.inside in
    let n : at + length xs + p.offset ≡ at + (length xs + p.offset) = omega arith in
    record {
      offset = length xs + p.offset;
      inside = omega arith;
      found = ap (λ zs. slice_get zs (length (action_offsets at xs) + k)) (offsets_append at xs ys) ∙ (nth_right (action_offsets at xs) (action_offsets (at + length xs) ys) k ∙ (p.found ∙ ap (λ m. Some m) n));
      letter = rw (get_or-append-add xs ys p.offset 0) p.letter;
    }

placed_behind : (at c : ℕ) (xs : List ℕ) (k a : ℕ) → is_action c ≡ false → Placed (at + 1) xs k a → Placed at (c ∷ xs) k a
placed_behind at c xs k a e p =
    let i = p.inside in
    let n : at + 1 + p.offset ≡ at + suc p.offset = omega arith in
    record { offset = suc p.offset; inside = omega arith; found = rw e (p.found ∙ ap (λ m. Some m) n); letter = p.letter }

offsets_size : {level : Level} {i : ℕ} {xs : List ℕ} {t : Tree} → Spells level i xs t → (at : ℕ) → length (action_offsets at xs) ≡ size t
offsets_size (action l) at = rw (letter_action l).0
offsets_size (bracket {i} {xs} s) at =
    let h = offsets_size s (at + 1) in
    let e = ap length (offsets_append (at + 1) xs (41 ∷ [])) in
    let l = length-append (action_offsets (at + 1) xs) [] in
    omega arith
offsets_size (one_operand s) at = offsets_size s at
offsets_size (more_operands {i} {xs} {ys} s r) at =
    let h = offsets_size s at in
    let k = offsets_size r (at + length xs + 1) in
    let e = ap length (offsets_append at xs (46 ∷ ys)) in
    let l = length-append (action_offsets at xs) (action_offsets (at + length xs + 1) ys) in
    omega arith
offsets_size (one_product s) at = offsets_size s at
offsets_size (more_products {i} {xs} {ys} s r) at =
    let h = offsets_size s at in
    let k = offsets_size r (at + length xs + 1) in
    let e = ap length (offsets_append at xs (43 ∷ ys)) in
    let l = length-append (action_offsets at xs) (action_offsets (at + length xs + 1) ys) in
    omega arith

-- the action at place j, where i actions stand before the text
abbrev At : ℕ → ℕ → List ℕ → ℕ → ℕ → Type 0
At at i text a j = (k : ℕ) × (j ≡ i + suc k) × Placed at text k a

-- two parts with a byte between
at_first : (at i c : ℕ) (xs ys : List ℕ) (a j : ℕ) → At at i xs a j → At at i (xs ++ c ∷ ys) a j
at_first at i c xs ys a j h = (h.0, h.1, placed_left at xs (c ∷ ys) h.0 a h.2)

at_second : (at i n c : ℕ) (xs ys : List ℕ) (a j : ℕ) → is_action c ≡ false → length (action_offsets at xs) ≡ n → At (at + length xs + 1) (i + n) ys a j → At at i (xs ++ c ∷ ys) a j
at_second at i n c xs ys a j e l h =
    let p = h.1 in
    (length (action_offsets at xs) + h.0, omega arith, placed_right at xs (c ∷ ys) h.0 a (placed_behind (at + length xs) c ys h.0 a e h.2))

placed : {level : Level} {i : ℕ} {xs : List ℕ} {t : Tree} → Spells level i xs t → (at a j : ℕ) → In (a, j) (leaves t) → At at i xs a j
placed (action {i} {c} {a = b} l) at a j (inl e) =
    let q : ◌≡◌ {A = ℕ × ℕ} (a, j) (b, suc i) = e in
    let p = ap (λ x. x.0) q in
    let n = ap (λ x. x.1) q in
    (0, omega arith, record { offset = 0; inside = omega arith; found = rw ((letter_action l).0, add-zero at) refl; letter = rw p l })
placed (action l) at a j (inr h) = absurd h
placed (bracket {i} {xs} s) at a j h =
    let r = placed s (at + 1) a j h in
    (r.0, r.1, placed_behind at 40 (xs ++ 41 ∷ []) r.0 a refl (placed_left (at + 1) xs (41 ∷ []) r.0 a r.2))
placed (one_operand s) at a j h = placed s at a j h
placed (more_operands {i} {xs} {ys} {t} {u} s r) at a j h =
    ⊎_elim (λ k. at_first at i 46 xs ys a j (placed s at a j k)) (λ k. at_second at i (size t) 46 xs ys a j refl (offsets_size s at) (placed r (at + length xs + 1) a j k)) (in_either (a, j) (leaves t) (leaves u) h)
placed (one_product s) at a j h = placed s at a j h
placed (more_products {i} {xs} {ys} {t} {u} s r) at a j h =
    ⊎_elim (λ k. at_first at i 43 xs ys a j (placed s at a j k)) (λ k. at_second at i (size t) 43 xs ys a j refl (offsets_size s at) (placed r (at + length xs + 1) a j k)) (in_either (a, j) (leaves t) (leaves u) h)

-- the action of a step stands where it is said to
pub step_stands : (text : List ℕ) (t : Tree) → Spells sum 0 text t → (s a j : ℕ) → In (a, j) ((graph t).steps s) → Stands text (a, j)
step_stands text t sp s a j h =
    let r = placed sp 0 a j (steps_leaves t s (a, j) h) in
    let n : j ≡ suc r.0 = omega (arith, r.1) in
    let o : 0 + r.2.offset ≡ r.2.offset = omega arith in
    (r.2.offset, ap (λ (x : ℕ). from_one x (action_offsets 0 text)) n ∙ (r.2.found ∙ ap (λ m. Some m) o), r.2.letter)
