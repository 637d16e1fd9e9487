-- The table of pairs as it is filled, and two tables with as many pairs.
use Rattle.std.proofs.Common.{◌≡◌, ℕ, zero, suc, ◌+◌, ◌*◌, ◌/◌, ◌%◌, ◌<◌, ◌≤◌, Bool, true, false, ◌&&◌, ◌||◌, eqb, List, length, get_or, take, replicate, Some, sym, refl, ap, ◌∙◌, subst, ⊎_elim, add-one, arith}
use Rattle.std.specs.List.{slice_get}
use Rattle.std.proofs.lemmas.List.{get_or-replicate, get_or_past, length-replicate}
use Rattle.std.proofs.lemmas.Bool.{and_from, or_right, eq-eqb, ne_eqb, and_left, and_right, not-true, not-false, cases_eq, cases_lt, cases_Bool, both_ways}
use Rattle.theory.specs.Classes.{number}
use Rattle.theory.proofs.Counting.{number_more, number_same, number_none}
use Rattle.comparison.specs.Reach.{hits, all_pairs, all_pairs_are, weight, stamped, holds, total, Cleared, Put, Reached}
use Rattle.comparison.specs.declared.reach.Reach.{Reach}
use Rattle.comparison.proofs.Pairs.{hits_more}

pub blank : (n i : ℕ) → get_or {A = ℕ} (replicate n 0) i 0 ≡ 0
blank n i =
    ⊎_elim
    (λ (l : i < n). get_or-replicate n i 0 0 l)
    (λ (l : n ≤ i). get_or_past (replicate n 0) i 0 (rw length-replicate (omega arith)))
    (cases_lt i n)

-- pairs with one code are one pair
pub one_code : (a b c d : ℕ) → c < 256 → d < 256 → a * 256 + c ≡ b * 256 + d → (a ≡ b) × (c ≡ d)
one_code a b c d x y e = (omega arith, omega arith)

or_false : (x y : Bool) → y ≡ false → (x || y) ≡ x
or_false true y e = refl
or_false false y e = e

-- one step more of the list is held
pub reached_more : (n : ℕ → ℕ) (xs : List (ℕ × ℕ)) (k a u : ℕ) (before after : Reach) (new : Bool) → Some (a, u) ≡ slice_get xs k → n u < 256 → Put before a (n u) new after → Reached n (take k xs) before → Reached n (take (k + 1) xs) after
reached_more n xs k a u before after new at low put r b c lb lc = ⊎_elim same other (cases_eq b a)
  where
    more : hits n b c (take (k + 1) xs) ≡ (hits n b c (take k xs) || (eqb a b && eqb (n u) c))
    more = hits_more n b c xs k (a, u) at

    apart : (b * 256 + c ≡ a * 256 + n u → ⊥) → (eqb a b && eqb (n u) c) ≡ false → holds after b c ≡ hits n b c (take (k + 1) xs)
    apart ne f =
        put.others (b * 256 + c) ne ∙ (r b c lb lc ∙ sym (more ∙ or_false (hits n b c (take k xs)) (eqb a b && eqb (n u) c) f))

    other : (b ≡ a → ⊥) → holds after b c ≡ hits n b c (take (k + 1) xs)
    other ne = apart (λ e. ne (one_code b a c (n u) lc low e).0) (and_left (eqb a b) (eqb (n u) c) (ne_eqb a b (λ e. ne (sym e))))

    same : b ≡ a → holds after b c ≡ hits n b c (take (k + 1) xs)
    same e = ⊎_elim both differ (cases_eq c (n u))
      where
        both : c ≡ n u → holds after b c ≡ hits n b c (take (k + 1) xs)
        both d =
            let here : holds after b c ≡ true = subst (λ (v : ℕ). stamped after v ≡ true) (let z : a * 256 + n u ≡ b * 256 + c = omega arith in z) put.there in
            let hit = or_right (hits n b c (take k xs)) (eqb a b && eqb (n u) c) (and_from (eqb a b) (eqb (n u) c) (eq-eqb a b (sym e)) (eq-eqb (n u) c (sym d))) in
            here ∙ sym (more ∙ hit)

        differ : (c ≡ n u → ⊥) → holds after b c ≡ hits n b c (take (k + 1) xs)
        differ ne =
            apart (λ z. ne (one_code b a c (n u) lc low z).1) (and_right (eqb a b) (eqb (n u) c) (ne_eqb (n u) c (λ z. ne (sym z))))

-- both tables have as many cells
sized_alike : (before after : Reach) → length after.cells ≡ length before.cells
sized_alike before after = after.size ∙ sym before.size

-- and counted where it is new
pub total_new : (before after : Reach) (a c : ℕ) → a ≤ 63 → c < 256 → Put before a c true after → total after ≡ total before + 1
total_new before after a c la lc put =
    let none : stamped before (a * 256 + c) ≡ false = not-true (holds before a c) (sym put.told) in
    ap (number (stamped after)) (sized_alike before after) ∙ (number_more (stamped before) (stamped after) (a * 256 + c) (length before.cells) room none put.there (λ s ne. sym (put.others s ne)) ∙ sym (add-one (total before)))
  where
    room : a * 256 + c < length before.cells
    room = let e = before.size in omega arith

pub total_old : (before after : Reach) (a c : ℕ) → Put before a c false after → total after ≡ total before
total_old before after a c put =
    ap (number (stamped after)) (sized_alike before after) ∙ number_same (stamped after) (stamped before) (length before.cells) (λ s _. ⊎_elim (at s) (put.others s) (cases_eq s (a * 256 + c)))
  where
    held : stamped before (a * 256 + c) ≡ true
    held = not-false (holds before a c) (sym put.told)

    at : (s : ℕ) → s ≡ a * 256 + c → stamped after s ≡ stamped before s
    at s e = ap (stamped after) e ∙ (put.there ∙ (sym held ∙ ap (stamped before) (sym e)))

-- an empty table counts none
pub total_none : (r : Reach) → Cleared r → 0 ≡ total r
total_none r none = sym (number_none (stamped r) (length r.cells) (λ s _ e. both_ways (stamped r s) (none s) e))

number_most : (p : ℕ → Bool) (n : ℕ) → number p n ≤ n
number_most p zero = omega arith
number_most p (suc n) = ⊎_elim (λ e. rw e (omega (arith, number_most p n))) (λ e. rw e (omega (arith, number_most p n))) (cases_Bool (p n))

-- a table holds as many pairs as the steps reach
pub total_weight : (n : ℕ → ℕ) (xs : List (ℕ × ℕ)) (r : Reach) → Reached n xs r → total r ≡ weight n xs
total_weight n xs r reached =
    ap (number (stamped r)) (r.size ∙ sym all_pairs_are) ∙ number_same (stamped r) (λ (i : ℕ). hits n (i / 256) (i % 256) xs) all_pairs at
  where
    at : (i : ℕ) → i < all_pairs → stamped r i ≡ hits n (i / 256) (i % 256) xs
    at i l =
        let all = all_pairs_are in
        let row : i / 256 ≤ 63 = omega arith in
        let column : i % 256 < 256 = omega arith in
        let code : i ≡ i / 256 * 256 + i % 256 = omega arith in
        ap (stamped r) code ∙ reached (i / 256) (i % 256) row column

pub weight_few : (n : ℕ → ℕ) (xs : List (ℕ × ℕ)) → weight n xs ≤ 16384
weight_few n xs =
    let all = all_pairs_are in
    omega (arith, number_most (λ (i : ℕ). hits n (i / 256) (i % 256) xs) all_pairs)

pub total_few : (r : Reach) → total r ≤ 16384
total_few r = let e = r.size in omega (arith, number_most (stamped r) (length r.cells))
