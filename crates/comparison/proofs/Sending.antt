-- Where splits send a state, split after split.
use Rattle.std.proofs.Common.{◌≡◌, ℕ, zero, suc, ◌+◌, ◌<◌, ◌≤◌, Bool, true, false, cond, ◌&&◌, eqb, ◌≢◌, List, length, get_or, set, sym, refl, ap, ◌∙◌, ap₂, add-one, arith}
use mathlib.Core.Bool.{beq}
use Rattle.std.proofs.lemmas.List.{get_or-set_same, get_or-set_other}
use Rattle.std.proofs.lemmas.Bool.{and_from, and_left, and_right, cond-true, cond-false, eq-eqb, ne_eqb}
use Rattle.comparison.specs.Landing.{unsplit, leaves, sent}
use Rattle.comparison.specs.declared.split.Split.{Split}

module _ (has : ℕ → ℕ → Bool) (splits : List Split) (first from j class : ℕ) where
  abbrev at : Split
  at = get_or splits j unsplit

  abbrev before : ℕ
  before = sent has splits first from j

  one_more : (x : ℕ) → x ≡ sent has splits first from (suc j) → x ≡ sent has splits first from (j + 1)
  one_more x e = rw add-one e

  pub sent_goes : (held : Bool) → class ≡ before → at.from ≡ class → held ≡ has at.action at.into → beq held at.side ≡ true → first + j ≡ sent has splits first from (j + 1)
  sent_goes held is of e side =
      let told : beq (has at.action at.into) at.side ≡ true = ap (λ (b : Bool). beq b at.side) (sym e) ∙ side in
      one_more (first + j) (sym (cond-true (leaves has at before) (first + j) before (and_from _ _ (eq-eqb at.from before (of ∙ is)) told)))

  pub sent_stays : (held : Bool) → class ≡ before → held ≡ has at.action at.into → beq held at.side ≡ false → class ≡ sent has splits first from (j + 1)
  sent_stays held is e side =
      let told : beq (has at.action at.into) at.side ≡ false = ap (λ (b : Bool). beq b at.side) (sym e) ∙ side in
      one_more class (is ∙ sym (cond-false (leaves has at before) (first + j) before (and_right (eqb at.from before) _ told)))

  pub sent_elsewhere : class ≡ before → (at.from ≡ class → ⊥) → class ≡ sent has splits first from (j + 1)
  sent_elsewhere is ne =
      one_more class (is ∙ sym (cond-false (leaves has at before) (first + j) before (and_left (eqb at.from before) _ (ne_eqb at.from before (λ e. ne (e ∙ sym is))))))

-- splits behind the first j do not matter to them
pub sent_before : (has : ℕ → ℕ → Bool) (splits : List Split) (first from i : ℕ) (x : Split) (j : ℕ) → j ≤ i → sent has (set splits i x) first from j ≡ sent has splits first from j
sent_before has splits first from i x zero l = refl
sent_before has splits first from i x (suc j) l =
    let ne : j ≢ i = omega arith in
    ap₂ (λ (y : Split) (d : ℕ). cond (leaves has y d) (first + j) d) (get_or-set_other splits i j x unsplit ne) (sent_before has splits first from i x j (omega arith))

-- one split more
pub sent_more : (has : ℕ → ℕ → Bool) (splits : List Split) (first from i : ℕ) (x : Split) → i < length splits → sent has (set splits i x) first from (i + 1) ≡ cond (leaves has x (sent has splits first from i)) (first + i) (sent has splits first from i)
sent_more has splits first from i x l =
    rw add-one (ap₂ (λ (y : Split) (d : ℕ). cond (leaves has y d) (first + i) d) (get_or-set_same splits i x unsplit l) (sent_before has splits first from i x i (omega arith)))

-- only the pairs of the splits matter
pub sent_like : (has held : ℕ → ℕ → Bool) (splits : List Split) (first from j : ℕ) → ((i : ℕ) → i < j → has (get_or splits i unsplit).action (get_or splits i unsplit).into ≡ held (get_or splits i unsplit).action (get_or splits i unsplit).into) → sent has splits first from j ≡ sent held splits first from j
sent_like has held splits first from zero same = refl
sent_like has held splits first from (suc j) same =
    let x = get_or splits j unsplit in
    ap₂ (λ (b : Bool) (d : ℕ). cond (eqb x.from d && beq b x.side) (first + j) d) (same j (omega arith)) (sent_like has held splits first from j (λ i l. same i (omega arith)))
