-- A class split in two by a test that the next round respects.
use Rattle.std.proofs.Common.{◌≡◌, ℕ, suc, ◌<◌, ◌≤◌, Bool, true, false, eqb, ◌⊎◌, ◌↔◌, sym, ◌∙◌, subst, inl, inr, ⊎_elim, arith}
use mathlib.Core.Logic.Iff
use Rattle.std.proofs.lemmas.Bool.{and_from, and_left, and_right, cond-true, cond-false, eq-eqb, ne_eqb, cases_Bool, cases_eq, cases_lt, ltb-true, lt-ltb}
use Rattle.lts.specs.Meaning.{Meaning}
use Rattle.theory.specs.Rounds.{Agree, all_of}
use Rattle.theory.specs.Classes.{Numbers}
use Rattle.theory.proofs.Stability.{all_counted}
use Rattle.theory.proofs.Numberings.{count_few}
use Rattle.comparison.specs.Landing.{Landing, moved}

-- no more classes than states
pub landing_few : (m : Meaning) (k : ℕ) (n : ℕ → ℕ) (L : ℕ) (land : ℕ → ℕ) → Landing m k n L land → L ≤ m.count
landing_few m k n L land h =
    let numbers : Numbers (all_of m) (λ t u. land t ≡ land u) L land = record { below = λ t e. h.below t (ltb-true t m.count e); occurs = λ c l. let r = h.occurs c l in (r.0, lt-ltb r.0 m.count r.1, r.2); equal = λ t u x y. Iff.rfl } in
    let few = count_few (all_of m) m.count (λ s e. ltb-true s m.count e) (λ t u. land t ≡ land u) L land numbers in
    omega (arith, all_counted m)

module _ (land : ℕ → ℕ) (test : ℕ → Bool) (d e : ℕ) where
  pub moves : (t : ℕ) → land t ≡ d → test t ≡ true → moved land test d e t ≡ e
  moves t x y = cond-true _ e (land t) (and_from (eqb d (land t)) (test t) (eq-eqb d (land t) (sym x)) y)

  pub stays : (t : ℕ) → test t ≡ false → moved land test d e t ≡ land t
  stays t y = cond-false _ e (land t) (and_right (eqb d (land t)) (test t) y)

  pub elsewhere : (t : ℕ) → (land t ≡ d → ⊥) → moved land test d e t ≡ land t
  elsewhere t x = cond-false _ e (land t) (and_left (eqb d (land t)) (test t) (ne_eqb d (land t) (λ z. x (sym z))))

  pub moved_cases : (t : ℕ) → ((land t ≡ d) × (test t ≡ true) × (moved land test d e t ≡ e)) ⊎ (moved land test d e t ≡ land t)
  moved_cases t =
      ⊎_elim
      (λ x. ⊎_elim (λ y. inl (x, y, moves t x y)) (λ y. inr (stays t y)) (cases_Bool (test t)))
      (λ x. inr (elsewhere t x))
      (cases_eq (land t) d)

  -- the new class has those that passed the test
  pub moved_new : (t : ℕ) → land t < e → (moved land test d e t ≡ e) ↔ (land t ≡ d) × (test t ≡ true)
  moved_new t l =
      (λ h. ⊎_elim (λ r. (r.0, r.1)) (λ r. let b : ⊥ = omega arith in absurd b) (moved_cases t), λ h. moves t h.0 h.1)

  -- the old one keeps the others
  pub moved_old : (t : ℕ) → d < e → (moved land test d e t ≡ d) ↔ (land t ≡ d) × (test t ≡ false)
  moved_old t l = (λ h. ⊎_elim (λ r. let b : ⊥ = omega arith in absurd b) (λ r. same h (sym r ∙ h)) (moved_cases t), λ h. stays t h.1 ∙ h.0)
    where
      same : moved land test d e t ≡ d → land t ≡ d → (land t ≡ d) × (test t ≡ false)
      same h x =
          ⊎_elim (λ y. let z = moves t x y in let b : ⊥ = omega arith in absurd b) (λ y. (x, y)) (cases_Bool (test t))

  -- the rest is as it was
  pub moved_rest : (t c : ℕ) → (c ≡ d → ⊥) → (c ≡ e → ⊥) → (moved land test d e t ≡ c) ↔ (land t ≡ c)
  moved_rest t c x y =
      (λ h. ⊎_elim (λ r. absurd (y (sym h ∙ r.2))) (λ r. sym r ∙ h) (moved_cases t), λ h. elsewhere t (λ z. x (sym h ∙ z)) ∙ h)

module _ (m : Meaning) (k : ℕ) (n : ℕ → ℕ) (L : ℕ) (land : ℕ → ℕ) (h : Landing m k n L land) (test : ℕ → Bool) (d : ℕ) (respects : (t u : ℕ) → t < m.count → u < m.count → Agree m (suc k) t u → test t ≡ test u) (s l : ℕ) (ls : s < m.count) (ll : l < m.count) (in_s : land s ≡ d) (in_l : land l ≡ d) (yes_s : test s ≡ true) (no_l : test l ≡ false) where
  low : d < L
  low = subst (λ (v : ℕ). v < L) in_s (h.below s ls)

  split_below : (t : ℕ) → t < m.count → moved land test d L t < suc L
  split_below t lt = let b = h.below t lt in ⊎_elim (λ r. let e = r.2 in omega arith) (λ r. omega arith) (moved_cases land test d L t)

  split_occurs : (c : ℕ) → c < suc L → (t : ℕ) × (t < m.count) × (moved land test d L t ≡ c)
  split_occurs c lc = ⊎_elim old new (cases_lt c L)
    where
      new : L ≤ c → (t : ℕ) × (t < m.count) × (moved land test d L t ≡ c)
      new g = let e : L ≡ c = omega arith in (s, ls, moves land test d L s in_s yes_s ∙ e)

      old : c < L → (t : ℕ) × (t < m.count) × (moved land test d L t ≡ c)
      old g =
          ⊎_elim (λ e. (l, ll, stays land test d L l no_l ∙ (in_l ∙ sym e)))
          (λ ne. let r = h.occurs c g in (r.0, r.1, (moved_rest land test d L r.0 c ne (λ e. omega arith)).1 r.2))
          (cases_eq c d)

  split_keeps : (t u : ℕ) → t < m.count → u < m.count → Agree m (suc k) t u → moved land test d L t ≡ moved land test d L u
  split_keeps t u lt lu a =
      let e = h.keeps t u lt lu a in
      let f = respects t u lt lu a in
      cc

  split_refines : (t u : ℕ) → t < m.count → u < m.count → moved land test d L t ≡ moved land test d L u → n t ≡ n u
  split_refines t u lt lu e = h.refines t u lt lu (⊎_elim left right (moved_cases land test d L t))
    where
      bt : land t < L
      bt = h.below t lt

      bu : land u < L
      bu = h.below u lu

      left : (land t ≡ d) × (test t ≡ true) × (moved land test d L t ≡ L) → land t ≡ land u
      left r = r.0 ∙ sym ((moved_new land test d L u bu).0 (sym e ∙ r.2)).0

      right : moved land test d L t ≡ land t → land t ≡ land u
      right r =
          ⊎_elim (λ x. let y = x.2 in let b : ⊥ = omega arith in absurd b) (λ x. sym r ∙ (e ∙ x)) (moved_cases land test d L u)

  pub landing_split : Landing m k n (suc L) (moved land test d L)
  landing_split = record { below = split_below; occurs = split_occurs; keeps = split_keeps; refines = split_refines }
