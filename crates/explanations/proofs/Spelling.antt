-- The formula of a line, by its letter, and the room that its text takes.
use Rattle.std.proofs.Common.{◌≡◌, ℕ, ◌+◌, ◌-◌, ◌<◌, ◌≤◌, true, List, [], length, get_or, refl, ap, ◌∙◌, ⊎_elim, arith}
use Rattle.std.specs.Fmt.{digits}
use Rattle.std.proofs.lemmas.Bool.{leb-true, ltb-true, lt-ltb, le-ltb, and_parts, cases_eq}
use Rattle.theory.specs.Formulas.{T, E, N, A, D}
use Rattle.terms.specs.Grammar.{Letter, small, capital, digit}
use Rattle.drawings.specs.Texts.{action_text}
use Rattle.formulas.specs.declared.line.Line.{Line}
use Rattle.formulas.specs.declared.line.Line.TheVariants.{True, End, Not, Both, Step}
use Rattle.formulas.specs.Lines.{fits, Wellformed, made_of, formulas_from, formula}
use Rattle.formulas.proofs.Growing.{formula_at}

module _ (lines : List Line) (well : Wellformed lines) (i : ℕ) (inside : i < length lines) where
  fit : (l : Line) → get_or lines i True ≡ l → fits i l ≡ true
  fit l e = rw e at (well i inside)

  made : (l : Line) → get_or lines i True ≡ l → formula lines i ≡ made_of (formulas_from [] lines) l
  made l e = formula_at lines i inside (well i inside) ∙ ap (made_of (formulas_from [] lines)) e

  pub is_true : get_or lines i True ≡ True → formula lines i ≡ T
  is_true e = made True e

  pub is_end : get_or lines i True ≡ End → formula lines i ≡ E
  is_end e = made End e

  pub is_not : (j : ℕ) → get_or lines i True ≡ Not j → (j < i) × (formula lines i ≡ N (formula lines j))
  is_not j e = (ltb-true j i (fit (Not j) e), made (Not j) e)

  pub is_both : (j k : ℕ) → get_or lines i True ≡ Both j k → (j < i) × (k < i) × (formula lines i ≡ A (formula lines j) (formula lines k))
  is_both j k e = let p = and_parts _ _ (fit (Both j k) e) in (ltb-true j i p.0, ltb-true k i p.1, made (Both j k) e)

  pub is_step : (a j : ℕ) → get_or lines i True ≡ Step a j → (a ≤ 63) × (j < i) × (formula lines i ≡ D a (formula lines j))
  is_step a j e = let p = and_parts _ _ (fit (Step a j) e) in (leb-true a 63 p.0, ltb-true j i p.1, made (Step a j) e)

-- a letter is one byte
pub letter_length : {c a : ℕ} → Letter c a → length (action_text a) ≡ 1
letter_length (small {c} l h) = rw (lt-ltb (c - 97) 26 (omega arith))
letter_length (capital {c} l h) = rw (le-ltb (c - 65 + 26) 26 (omega arith), lt-ltb (c - 65 + 26) 52 (omega arith))
letter_length (digit {c} l h) = rw (le-ltb (c - 48 + 52) 26 (omega arith), le-ltb (c - 48 + 52) 52 (omega arith), lt-ltb (c - 48 + 52) 62 (omega arith))

-- the last two actions have none
pub number_length : (a : ℕ) → 62 ≤ a → a ≤ 63 → length (action_text a) ≡ 3
unfolding digits
number_length a l h = ⊎_elim (λ (e : a ≡ 62). rw e refl) (λ ne. let e : a ≡ 63 = omega (arith, ne) in rw e refl) (cases_eq a 62)
