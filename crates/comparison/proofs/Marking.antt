-- Lines that mark states, as lines are added.
use Rattle.std.proofs.Common.{◌≡◌, ℕ, suc, ◌+◌, ◌<◌, ◌≤◌, true, ◌↔◌, List, length, sym, refl, ◌∙◌, subst, arith}
use mathlib.Core.Logic.Iff
use Rattle.std.proofs.lemmas.List.{length_push}
use Rattle.std.proofs.lemmas.Bool.{lt-ltb, le-leb, and_from}
use Rattle.lts.specs.Meaning.{Meaning, In}
use Rattle.theory.specs.Formulas.{Formula, Holds, depth}
use Rattle.formulas.specs.Lines.{formula, Wellformed}
use Rattle.formulas.specs.declared.line.Line.{Line}
use Rattle.formulas.specs.declared.line.Line.TheVariants.{Not, Both, Step}
use Rattle.formulas.proofs.Growing.{formula_push, formula_push_below, wellformed_push}
use Rattle.comparison.specs.Reach.{hits}
use Rattle.comparison.specs.Marks.{Marks, Kept, with_line, divided}
use Rattle.comparison.proofs.Pairs.{hits_in, in_hits}

pub kept_refl : (ls : List Line) → Kept ls ls
kept_refl ls = record { longer = omega arith; same = λ i h. refl }

pub kept_trans : (a b c : List Line) → Kept a b → Kept b c → Kept a c
kept_trans a b c x y =
    let p = x.longer in
    let q = y.longer in
    record { longer = omega arith; same = λ i h. y.same i (omega arith) ∙ x.same i h }

pub kept_push : (ls : List Line) (x : Line) → Kept ls (with_line ls x)
kept_push ls x = let e = length_push ls x in record { longer = omega arith; same = λ i h. formula_push_below ls x i h }

-- what a formula of its own marks
of_formula : (m : Meaning) (ls : List Line) (d i : ℕ) (P : ℕ → Type 0) (f : Formula) → formula ls i ≡ f → i < length ls → depth f ≤ d → ((t : ℕ) → t < m.count → Holds m t f ↔ P t) → Marks m ls d i P
of_formula m ls d i P f e l s x =
    record { placed = l; shallow = subst (λ (g : Formula). depth g ≤ d) (sym e) s; exact = λ t h. subst (λ (g : Formula). Holds m t g ↔ P t) (sym e) (x t h) }

pub marks_kept : (m : Meaning) (ls ls' : List Line) (d i : ℕ) (P : ℕ → Type 0) → Kept ls ls' → Marks m ls d i P → Marks m ls' d i P
marks_kept m ls ls' d i P k h =
    let p = h.placed in
    let l = k.longer in
    of_formula m ls' d i P (formula ls i) (k.same i p) (omega arith) h.shallow h.exact

pub marks_like : (m : Meaning) (ls : List Line) (d i : ℕ) (P Q : ℕ → Type 0) → ((t : ℕ) → t < m.count → P t ↔ Q t) → Marks m ls d i P → Marks m ls d i Q
marks_like m ls d i P Q like h = record { placed = h.placed; shallow = h.shallow; exact = λ t l. Iff.trans (h.exact t l) (like t l) }

pub marks_deeper : (m : Meaning) (ls : List Line) (d e i : ℕ) (P : ℕ → Type 0) → d ≤ e → Marks m ls d i P → Marks m ls e i P
marks_deeper m ls d e i P l h = let s = h.shallow in record { placed = h.placed; shallow = omega arith; exact = h.exact }

module _ (m : Meaning) (ls : List Line) where
  last_place : (x : Line) → length ls < length (with_line ls x)
  last_place x = let e = length_push ls x in omega arith

  -- some step by action a leads into class c
  pub marks_step : (n : ℕ → ℕ) (a c d i : ℕ) → ((s b t : ℕ) → In (b, t) (m.steps s) → t < m.count) → Marks m ls d i (λ u. n u ≡ c) → Marks m (with_line ls (Step a i)) (suc d) (length ls) (λ t. hits n a c (m.steps t) ≡ true)
  marks_step n a c d i aims h =
      let s = h.shallow in
      of_formula m (with_line ls (Step a i)) (suc d) (length ls) _ _ (formula_push ls (Step a i)) (last_place (Step a i)) (omega arith)
      (λ t l. (λ r. in_hits n a c r.0 (m.steps t) r.1 ((h.exact r.0 (aims t a r.0 r.1)).0 r.2), λ e. let r = hits_in n a c (m.steps t) e in (r.0, r.1, (h.exact r.0 (aims t a r.0 r.1)).1 r.2)))

  pub marks_both : (d i j : ℕ) (P Q : ℕ → Type 0) → Marks m ls d i P → Marks m ls d j Q → Marks m (with_line ls (Both i j)) d (length ls) (λ t. P t × Q t)
  marks_both d i j P Q g h =
      let s = g.shallow in
      let s' = h.shallow in
      of_formula m (with_line ls (Both i j)) d (length ls) _ _ (formula_push ls (Both i j)) (last_place (Both i j)) (omega arith)
      (λ t l. (λ r. ((g.exact t l).0 r.0, (h.exact t l).0 r.1), λ r. ((g.exact t l).1 r.0, (h.exact t l).1 r.1)))

  pub marks_not : (d i : ℕ) (P : ℕ → Type 0) → Marks m ls d i P → Marks m (with_line ls (Not i)) d (length ls) (λ t. P t → ⊥)
  marks_not d i P h =
      of_formula m (with_line ls (Not i)) d (length ls) _ _ (formula_push ls (Not i)) (last_place (Not i)) h.shallow
      (λ t l. (λ r x. r ((h.exact t l).1 x), λ r x. r ((h.exact t l).0 x)))

-- the four lines that divide the states of a class, as they are pushed
module _ (m : Meaning) (ls : List Line) (a i j : ℕ) where
  abbrev one : List Line
  one = with_line ls (Step a i)

  abbrev two : List Line
  two = with_line one (Both j (length ls))

  abbrev three : List Line
  three = with_line two (Not (length ls))

  sizes : (length one ≡ length ls + 1) × (length two ≡ length ls + 2) × (length three ≡ length ls + 3) × (length (divided ls a i j) ≡ length ls + 4)
  sizes =
      let n₁ = length_push ls (Step a i) in
      let n₂ = length_push one (Both j (length ls)) in
      let n₃ = length_push two (Not (length ls)) in
      let n₄ = length_push three (Both j (length ls + 2)) in
      (omega arith, omega arith, omega arith, omega arith)

  pub length_divided : length (divided ls a i j) ≡ length ls + 4
  length_divided = sizes.3

  later : Kept two (divided ls a i j)
  later = kept_trans two three (divided ls a i j) (kept_push two (Not (length ls))) (kept_push three (Both j (length ls + 2)))

  pub kept_divided : Kept ls (divided ls a i j)
  kept_divided =
      kept_trans ls two (divided ls a i j) (kept_trans ls one two (kept_push ls (Step a i)) (kept_push one (Both j (length ls)))) later

  pub wellformed_divided : Wellformed ls → a ≤ 63 → i < length ls → j < length ls → Wellformed (divided ls a i j)
  wellformed_divided w la li lj =
      let n = sizes in
      let n₁ = n.0 in
      let n₂ = n.1 in
      let n₃ = n.2 in
      let w₁ = wellformed_push ls (Step a i) w (and_from _ _ (le-leb a 63 la) (lt-ltb i (length ls) li)) in
      let w₂ = wellformed_push one (Both j (length ls)) w₁ (and_from _ _ (lt-ltb j (length one) (omega arith)) (lt-ltb (length ls) (length one) (omega arith))) in
      let w₃ = wellformed_push two (Not (length ls)) w₂ (lt-ltb (length ls) (length two) (omega arith)) in
      wellformed_push three (Both j (length ls + 2)) w₃ (and_from _ _ (lt-ltb j (length three) (omega arith)) (lt-ltb (length ls + 2) (length three) (omega arith)))

  module _ (n : ℕ → ℕ) (c d : ℕ) (P : ℕ → Type 0) (aims : (s b t : ℕ) → In (b, t) (m.steps s) → t < m.count) (into : Marks m ls d i (λ u. n u ≡ c)) (mark : Marks m ls (suc d) j P) where
    stepped : Marks m one (suc d) (length ls) (λ t. hits n a c (m.steps t) ≡ true)
    stepped = marks_step m ls n a c d i aims into

    -- those with such a step
    pub marks_with : Marks m (divided ls a i j) (suc d) (length ls + 1) (λ t. P t × (hits n a c (m.steps t) ≡ true))
    marks_with =
        let here = marks_both m one (suc d) j (length ls) _ _ (marks_kept m ls one (suc d) j P (kept_push ls (Step a i)) mark) stepped in
        subst (λ (v : ℕ). Marks m (divided ls a i j) (suc d) v (λ t. P t × (hits n a c (m.steps t) ≡ true))) sizes.0 (marks_kept m two (divided ls a i j) (suc d) (length one) _ later here)

    -- those without
    pub marks_without : Marks m (divided ls a i j) (suc d) (length ls + 3) (λ t. P t × (hits n a c (m.steps t) ≡ true → ⊥))
    marks_without =
        let lacking = marks_not m two (suc d) (length ls) _ (marks_kept m one two (suc d) (length ls) _ (kept_push one (Both j (length ls))) stepped) in
        let lacking' = subst (λ (v : ℕ). Marks m three (suc d) v (λ t. hits n a c (m.steps t) ≡ true → ⊥)) sizes.1 lacking in
        let mark' = marks_kept m ls three (suc d) j P (kept_trans ls two three (kept_trans ls one two (kept_push ls (Step a i)) (kept_push one (Both j (length ls)))) (kept_push two (Not (length ls)))) mark in
        subst (λ (v : ℕ). Marks m (divided ls a i j) (suc d) v (λ t. P t × (hits n a c (m.steps t) ≡ true → ⊥))) sizes.2 (marks_both m three (suc d) j (length ls + 2) _ _ mark' lacking')
