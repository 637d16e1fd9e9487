-- The first line that does not fit.
use Rattle.std.proofs.Common.{◌≡◌, ℕ, zero, suc, ◌+◌, ◌<◌, Bool, true, false, cond, not, List, [], ◌∷◌, length, get_or, Some, None, sym, refl, ap, ◌∙◌, add-zero, add-suc, suc-add, zero-add, add-one, arith}
use Rattle.std.specs.List.{enumerate_from, position_from}
use Rattle.std.proofs.lemmas.Bool.{cond-true, cond-false}
use Rattle.formulas.specs.declared.line.Line.{Line}
use Rattle.formulas.specs.declared.line.Line.TheVariants.{True}
use Rattle.formulas.specs.Lines.{fits, Wellformed}
use Rattle.formulas.specs.Faults.{misfit_from}

-- the first of the numbered lines that does not fit its number
pub misfit_numbered : (k : ℕ) (lines : List Line) → position_from (λ (p : ℕ × Line). not (fits p.0 p.1)) k (enumerate_from k lines) ≡ misfit_from k lines
misfit_numbered k [] = refl
misfit_numbered k (l ∷ lines) =
    go (fits k l) (misfit_numbered (k + 1) lines ∙ ap (λ n. misfit_from n lines) (add-one k))
  where
    go : (b : Bool) → position_from (λ (p : ℕ × Line). not (fits p.0 p.1)) (k + 1) (enumerate_from (k + 1) lines) ≡ misfit_from (suc k) lines → cond (not b) (Some k) (position_from (λ (p : ℕ × Line). not (fits p.0 p.1)) (k + 1) (enumerate_from (k + 1) lines)) ≡ cond b (misfit_from (suc k) lines) (Some k)
    go true e = e
    go false e = refl

-- no line is found exactly where all fit
passed : (k : ℕ) (l : Line) (lines : List Line) → misfit_from k (l ∷ lines) ≡ None → (fits k l ≡ true) × (misfit_from (suc k) lines ≡ None)
passed k l lines e = go (fits k l) refl
  where
    go : (b : Bool) → fits k l ≡ b → (fits k l ≡ true) × (misfit_from (suc k) lines ≡ None)
    go true f = (f, sym (cond-true (fits k l) (misfit_from (suc k) lines) (Some k) f) ∙ e)
    go false f =
        let x = cond-false (fits k l) (misfit_from (suc k) lines) (Some k) f in
        let z : ◌≡◌ {A = ℕ} 0 1 = cc in
        let b : ⊥ = omega arith in
        absurd b

fit_from : (k : ℕ) (lines : List Line) → misfit_from k lines ≡ None → (i : ℕ) → i < length lines → fits (k + i) (get_or lines i True) ≡ true
fit_from k [] e i h = let b : ⊥ = omega arith in absurd b
fit_from k (l ∷ lines) e zero h = rw (add-zero k) (passed k l lines e).0
fit_from k (l ∷ lines) e (suc i) h =
    rw (add-suc k i, ← suc-add k i) (fit_from (suc k) lines (passed k l lines e).1 i (omega arith))

misfit_of_fit : (k : ℕ) (lines : List Line) → ((i : ℕ) → i < length lines → fits (k + i) (get_or lines i True) ≡ true) → misfit_from k lines ≡ None
misfit_of_fit k [] w = refl
misfit_of_fit k (l ∷ lines) w =
    let f : fits k l ≡ true = rw (add-zero k) at (w 0 (omega arith)) in
    cond-true (fits k l) (misfit_from (suc k) lines) (Some k) f ∙ misfit_of_fit (suc k) lines (λ i h. rw (suc-add k i, ← add-suc k i) (w (suc i) (omega arith)))

pub wellformed_of : (lines : List Line) → misfit_from 0 lines ≡ None → Wellformed lines
wellformed_of lines e k h = rw (zero-add k) at (fit_from 0 lines e k h)

pub of_wellformed : (lines : List Line) → Wellformed lines → misfit_from 0 lines ≡ None
of_wellformed lines w = misfit_of_fit 0 lines (λ i h. rw (zero-add i) (w i h))
