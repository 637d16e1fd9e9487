-- Round 0: the classes by end marks, and their lines.
use Rattle.std.proofs.Common.{◌≡◌, ℕ, zero, suc, ◌<◌, Bool, true, false, cond, ◌↔◌, List, [], length, sym, refl, ◌∙◌, subst, ⊎_elim, arith}
use mathlib.Core.Bool.{beq}
use Rattle.std.proofs.lemmas.Bool.{ltb-true, lt-ltb, true≢false, false≢true}
use Rattle.lts.specs.Meaning.{Meaning, Lawful}
use Rattle.theory.specs.Rounds.{all_of}
use Rattle.theory.specs.Classes.{Numbering}
use Rattle.formulas.specs.declared.line.Line.{Line}
use Rattle.formulas.specs.declared.line.Line.TheVariants.{True, End, Not}
use Rattle.formulas.proofs.Growing.{wellformed_push}
use Rattle.comparison.specs.Reach.{numbers}
use Rattle.comparison.specs.Marks.{Marks, with_line}
use Rattle.comparison.specs.Ended.{apart, Ended}
use Rattle.comparison.specs.Standing.{Standing}
use Rattle.comparison.proofs.Marking.{marks_kept, marks_like, marks_not, kept_push}
use Rattle.comparison.proofs.Parting.{on_side, off_side}

apart_like : (m : Meaning) (t : ℕ) → beq (m.ends t) (m.ends 0) ≡ true → apart m t ≡ 0
apart_like m t e = rw e refl

beq_self : (b : Bool) → beq b b ≡ true
beq_self true = refl
beq_self false = refl

one_two : (x y z : Bool) → (cond {A = ℕ} (beq x z) 0 1 ≡ cond (beq y z) 0 1) ↔ (x ≡ y)
one_two true true z = (λ _. refl, λ _. refl)
one_two false false z = (λ _. refl, λ _. refl)
one_two true false true = (λ e. let b : ⊥ = omega arith in absurd b, λ e. absurd (true≢false e))
one_two true false false = (λ e. let b : ⊥ = omega arith in absurd b, λ e. absurd (true≢false e))
one_two false true true = (λ e. let b : ⊥ = omega arith in absurd b, λ e. absurd (false≢true e))
one_two false true false = (λ e. let b : ⊥ = omega arith in absurd b, λ e. absurd (false≢true e))

apart_zero : (x z : Bool) → (beq x z ≡ true) ↔ (cond {A = ℕ} (beq x z) 0 1 ≡ 0)
apart_zero true true = (λ _. refl, λ _. refl)
apart_zero false false = (λ _. refl, λ _. refl)
apart_zero true false = (λ e. absurd (false≢true e), λ e. let b : ⊥ = omega arith in absurd b)
apart_zero false true = (λ e. absurd (false≢true e), λ e. let b : ⊥ = omega arith in absurd b)

apart_one : (x z : Bool) → (beq x z ≡ false) ↔ (cond {A = ℕ} (beq x z) 0 1 ≡ 1)
apart_one true true = (λ e. absurd (true≢false e), λ e. let b : ⊥ = omega arith in absurd b)
apart_one false false = (λ e. absurd (true≢false e), λ e. let b : ⊥ = omega arith in absurd b)
apart_one true false = (λ _. refl, λ _. refl)
apart_one false true = (λ _. refl, λ _. refl)

module _ {most : ℕ} (m : Meaning) (law : Lawful most m) (class : List ℕ) (K : ℕ) (h : Ended m m.count class K) where
  start_apart : numbers class 0 ≡ 0
  start_apart = h.each 0 law.some ∙ apart_like m 0 (beq_self (m.ends 0))

  apart_low : (x : Bool) → cond {A = ℕ} x 0 1 < 2
  apart_low true = omega arith
  apart_low false = omega arith

  below : (t : ℕ) → t < m.count → numbers class t < K
  below t l = let e = h.each t l in let b = apart_low (beq (m.ends t) (m.ends 0)) in ⊎_elim (λ r. let x = r.0 in let y = r.1 t l in omega arith) (λ r. let x = r.0 in omega arith) h.counted

  occurs : (c : ℕ) → c < K → (t : ℕ) × (all_of m t ≡ true) × (numbers class t ≡ c)
  occurs zero l = (0, lt-ltb 0 m.count law.some, start_apart)
  occurs (suc c) l = ⊎_elim (λ r. let x = r.0 in let b : ⊥ = omega arith in absurd b) (λ r. let x = r.0 in let e : 1 ≡ suc c = omega arith in (r.1.0, lt-ltb r.1.0 m.count r.1.1, h.each r.1.0 r.1.1 ∙ (r.1.2 ∙ e))) h.counted

  numbering : Numbering m (all_of m) 0 K (numbers class)
  numbering =
      record {
        below = λ t e. below t (ltb-true t m.count e);
        occurs = occurs;
        equal = λ t u x y. let a = h.each t (ltb-true t m.count x) in let b = h.each u (ltb-true u m.count y) in let o = one_two (m.ends t) (m.ends u) (m.ends 0) in (λ e. o.0 (sym a ∙ (e ∙ b)), λ e. a ∙ (o.1 e ∙ sym b));
      }

  -- one class, with the line T
  pub one_class : (lines : List Line) (marks : List ℕ) → lines ≡ with_line [] True → K ≡ 1 → length marks ≡ 256 → numbers marks 0 ≡ 0 → Standing m 0 lines (record { class = class; marks = marks; count = K })
  one_class lines marks is e size first =
      subst (λ (ls : List Line). Standing m 0 ls (record { class = class; marks = marks; count = K })) (sym is)
      (record {
        based = record { class_size = h.size; marks_size = size; numbering = numbering; marked = marked };
        well = wellformed_push [] True (λ k l. let b : ⊥ = omega arith in absurd b) refl;
        few = omega arith;
      })
    where
      marked : (c : ℕ) → c < K → Marks m (with_line [] True) 0 (numbers marks c) (λ t. numbers class t ≡ c)
      marked c l =
          let z : 0 ≡ c = omega arith in
          subst (λ (v : ℕ). Marks m (with_line [] True) 0 (numbers marks v) (λ t. numbers class t ≡ v)) z
          (subst (λ (i : ℕ). Marks m (with_line [] True) 0 i (λ t. numbers class t ≡ 0)) (sym first)
          (record { placed = omega arith; shallow = omega arith; exact = λ t lt. (λ _. let b = below t lt in omega arith, λ _. tt) }))

  -- two classes, with the lines E and N 0
  abbrev two : List Line
  two = with_line (with_line [] End) (Not 0)

  ended : Marks m (with_line [] End) 0 0 (λ t. Unit {0} × (m.ends t ≡ true))
  ended = record { placed = omega arith; shallow = omega arith; exact = λ t l. (λ e. (tt, e), λ e. e.1) }

  ended_still : Marks m two 0 0 (λ t. Unit {0} × (m.ends t ≡ true))
  ended_still = marks_kept m (with_line [] End) two 0 0 _ (kept_push (with_line [] End) (Not 0)) ended

  not_ended : Marks m two 0 1 (λ t. Unit {0} × (m.ends t ≡ true → ⊥))
  not_ended = marks_like m two 0 1 _ _ (λ t l. (λ f. (tt, λ e. f (tt, e)), λ r e. r.1 e.1)) (marks_not m (with_line [] End) 0 0 _ ended)

  like_mark : (b : Bool) → m.ends 0 ≡ b → Marks m two 0 (cond b 0 1) (λ t. numbers class t ≡ 0)
  like_mark b e =
      marks_like m two 0 (cond b 0 1) _ _
      (λ t l. let a = h.each t l in let z = subst (λ (v : Bool). (beq (m.ends t) v ≡ true) ↔ (cond {A = ℕ} (beq (m.ends t) (m.ends 0)) 0 1 ≡ 0)) e (apart_zero (m.ends t) (m.ends 0)) in (λ r. a ∙ z.0 r.1, λ r. (tt, z.1 (sym a ∙ r))))
      (on_side m two 0 0 1 (λ _. Unit {0}) m.ends ended_still not_ended b)

  unlike_mark : (b : Bool) → m.ends 0 ≡ b → Marks m two 0 (cond b 1 0) (λ t. numbers class t ≡ 1)
  unlike_mark b e =
      marks_like m two 0 (cond b 1 0) _ _
      (λ t l. let a = h.each t l in let z = subst (λ (v : Bool). (beq (m.ends t) v ≡ false) ↔ (cond {A = ℕ} (beq (m.ends t) (m.ends 0)) 0 1 ≡ 1)) e (apart_one (m.ends t) (m.ends 0)) in (λ r. a ∙ z.0 r.1, λ r. (tt, z.1 (sym a ∙ r))))
      (off_side m two 0 0 1 (λ _. Unit {0}) m.ends ended_still not_ended b)

  pub two_classes : (lines : List Line) (marks : List ℕ) (b : Bool) → lines ≡ two → (K ≡ 1 → ⊥) → length marks ≡ 256 → m.ends 0 ≡ b → numbers marks 0 ≡ cond b 0 1 → numbers marks 1 ≡ cond b 1 0 → Standing m 0 lines (record { class = class; marks = marks; count = K })
  two_classes lines marks b is more size e like unlike =
      subst (λ (ls : List Line). Standing m 0 ls (record { class = class; marks = marks; count = K })) (sym is)
      (record {
        based = record { class_size = h.size; marks_size = size; numbering = numbering; marked = marked };
        well = wellformed_push (with_line [] End) (Not 0) (wellformed_push [] End (λ k l. let b : ⊥ = omega arith in absurd b) refl) refl;
        few = let z = KTwo in omega arith;
      })
    where
      KTwo : K ≡ 2
      KTwo = ⊎_elim (λ r. absurd (more r.0)) (λ r. r.0) h.counted

      marked : (c : ℕ) → c < K → Marks m two 0 (numbers marks c) (λ t. numbers class t ≡ c)
      marked zero l = subst (λ (i : ℕ). Marks m two 0 i (λ t. numbers class t ≡ 0)) (sym like) (like_mark b e)
      marked (suc c) l =
          let z = KTwo in
          let o : 1 ≡ suc c = omega arith in
          subst (λ (v : ℕ). Marks m two 0 (numbers marks v) (λ t. numbers class t ≡ v)) o (subst (λ (i : ℕ). Marks m two 0 i (λ t. numbers class t ≡ 1)) (sym unlike) (unlike_mark b e))
