-- A line holds where the marks of the lines before it say so.
use Rattle.std.proofs.Common.{◌≡◌, ℕ, ◌+◌, ◌-◌, ◌*◌, ◌<◌, ◌≤◌, Bool, true, eqb, List, [], length, get_or, take, drop, Decides, sym, refl, ap, ◌∙◌, subst, inl, inr, add-mul, one-mul, arith}
use Rattle.std.proofs.lemmas.Nat.{mul-le}
use Rattle.std.proofs.lemmas.List.{get_or-drop, take_rest}
use Rattle.std.proofs.lemmas.Bool.{ltb-true, eqb-true, eq-eqb, and_parts}
use Rattle.lts.specs.Meaning.{Meaning, Lawful}
use Rattle.theory.specs.Formulas.{Holds}
use Rattle.formulas.specs.declared.line.Line.{Line}
use Rattle.formulas.specs.declared.line.Line.TheVariants.{True, End, Not, Both, Step}
use Rattle.formulas.specs.Lines.{fits, made_of, formulas_from, formula}
use Rattle.formulas.specs.Evaluation.{Marks, Enters, Ready}
use Rattle.formulas.proofs.Growing.{formula_at}

-- what a place tells
pub marked_one : (x : ℕ) (P : Type 0) → Marks x P → Decides (eqb x 1) P
marked_one x P (inl h) = (λ _. h.1, λ _. eq-eqb x 1 h.0)
marked_one x P (inr h) =
    (λ t. let e = eqb-true x 1 t in let b : ⊥ = omega (arith, h.0) in absurd b, λ p. absurd (h.1 p))

pub marked_zero : (x : ℕ) (P : Type 0) → Marks x P → Decides (eqb x 0) (P → ⊥)
marked_zero x P (inl h) =
    (λ t. let e = eqb-true x 0 t in let b : ⊥ = omega (arith, h.0) in absurd b, λ p. absurd (p h.1))
marked_zero x P (inr h) = (λ _. h.1, λ _. eq-eqb x 0 h.0)

-- place i × n + s of a table with n columns lies before row k where i does
pub place_below : (i k n s : ℕ) → i < k → s < n → i * n + s < k * n
place_below i k n s h l =
    let a = mul-le (i + 1) n k n (omega arith) (omega arith) in
    let b = add-mul i 1 n in
    let c = one-mul n in
    omega arith

-- n is the number of states
module _ {m : Meaning} {lines : List Line} {k : ℕ} {work : List ℕ} (ready : Ready m lines k work) {n : ℕ} (states : n ≡ m.count) where
  fit : (l : Line) → get_or lines k True ≡ l → fits k l ≡ true
  fit l e = rw e at (ready.wellformed k ready.inside)

  pub names_not : {i : ℕ} → get_or lines k True ≡ Not i → i < k
  names_not {i} e = ltb-true i k (fit (Not i) e)

  pub names_both : {i j : ℕ} → get_or lines k True ≡ Both i j → (i < k) × (j < k)
  names_both {i} {j} e =
      let p = and_parts _ _ (fit (Both i j) e) in
      (ltb-true i k p.0, ltb-true j k p.1)

  pub names_step : {a i : ℕ} → get_or lines k True ≡ Step a i → i < k
  names_step {a} {i} e = let p = and_parts _ _ (fit (Step a i) e) in ltb-true i k p.1

  pub row_inside : (i : ℕ) → i < k → i * n + n ≤ length work
  row_inside i h =
      let a = mul-le (i + 1) m.count (length lines) m.count (omega (arith, ready.inside)) (omega arith) in
      let b = add-mul i 1 m.count in
      let c = one-mul m.count in
      let d = ready.room in
      rw states (omega arith)

  pub place_inside : (i s : ℕ) → i < k → s < m.count → i * n + s < length work
  place_inside i s h l = let r = row_inside i h in omega arith

  -- the mark of an earlier line
  mark : (i s : ℕ) → i < k → s < m.count → Marks (get_or work (i * n + s) 0) (Holds m s (formula lines i))
  mark i s h l = rw states (ready.marked i h s l)

  -- line k is this one
  like : (l : Line) → get_or lines k True ≡ l → (s : ℕ) (r : Bool) → Decides r (Holds m s (made_of (formulas_from [] lines) l)) → Decides r (Holds m s (formula lines k))
  like l e s r d =
      let f = formula_at lines k ready.inside (ready.wellformed k ready.inside) in
      let f' : formula lines k ≡ made_of (formulas_from [] lines) l = f ∙ ap (made_of (formulas_from [] lines)) e in
      subst (λ g. Decides r (Holds m s g)) (sym f') d

  pub holds_true : get_or lines k True ≡ True → (s : ℕ) → Decides true (Holds m s (formula lines k))
  holds_true e s = like True e s true (λ _. tt, λ _. refl)

  pub holds_end : get_or lines k True ≡ End → (s : ℕ) (r : Bool) → r ≡ m.ends s → Decides r (Holds m s (formula lines k))
  holds_end e s r is = like End e s r (λ t. sym is ∙ t, λ t. is ∙ t)

  pub holds_not : {i : ℕ} → get_or lines k True ≡ Not i → (s : ℕ) → s < m.count → Decides (eqb (get_or work (i * n + s) 0) 0) (Holds m s (formula lines k))
  holds_not {i} e s l = like (Not i) e s _ (marked_zero _ _ (mark i s (names_not e) l))

  module _ {i j : ℕ} (e : get_or lines k True ≡ Both i j) (s : ℕ) (l : s < m.count) where
    -- the first holds, so the second decides
    pub holds_second : get_or work (i * n + s) 0 ≡ 1 → Decides (eqb (get_or work (j * n + s) 0) 1) (Holds m s (formula lines k))
    holds_second one =
        let p = names_both e in
        let a = marked_one _ _ (mark i s p.0 l) in
        let b = marked_one _ _ (mark j s p.1 l) in
        like (Both i j) e s _ (λ t. (a.0 (eq-eqb _ 1 one), b.0 t), λ h. b.1 h.1)

    pub fails_first : (get_or work (i * n + s) 0 ≡ 1 → ⊥) → Decides (eqb (get_or work (i * n + s) 0) 1) (Holds m s (formula lines k))
    fails_first none =
        let a = marked_one _ _ (mark i s (names_both e).0 l) in
        like (Both i j) e s _ (λ t. absurd (none (eqb-true _ 1 t)), λ h. a.1 h.0)

  pub holds_step : {a i : ℕ} → get_or lines k True ≡ Step a i → {most : ℕ} → Lawful most m → (s : ℕ) (r : Bool) → Decides r (Enters (m.steps s) a (take (length work - i * n) (drop (i * n) work))) → Decides r (Holds m s (formula lines k))
  holds_step {a} {i} e law s r d =
      like (Step a i) e s r (λ t. let x = d.0 t in (x.0, x.1, (told x.0 (law.aims s a x.0 x.1)).0 (eq-eqb _ 1 x.2)), λ h. d.1 (h.0, h.1, eqb-true _ 1 ((told h.0 (law.aims s a h.0 h.1)).1 h.2)))
    where
      told : (t : ℕ) → t < m.count → Decides (eqb (get_or (take (length work - i * n) (drop (i * n) work)) t 0) 1) (Holds m t (formula lines i))
      told t l = rw (take_rest work (i * n), get_or-drop (i * n) work t 0) (marked_one _ _ (mark i t (names_step e) l))
