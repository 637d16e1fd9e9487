-- Lines behind lines: the formulas of earlier lines stay, and so does well-formedness of a front.
use Rattle.std.proofs.Common.{◌≡◌, ℕ, ◌+◌, ◌<◌, ◌≤◌, true, List, [], ◌∷◌, ◌++◌, length, get_or, take, drop, sym, refl, ap, ◌∙◌, subst, ⊎_elim, add-zero, arith}
use Rattle.std.proofs.lemmas.List.{length-append, length-take, length_push, get_or_append_left, get_or_push, get_or-take, take-append-drop, take_more}
use Rattle.std.proofs.lemmas.Bool.{ltb-true, and_parts, cases_lt}
use Rattle.theory.specs.Formulas.{Formula, T, N, D}
use Rattle.formulas.specs.declared.line.Line.{Line}
use Rattle.formulas.specs.declared.line.Line.TheVariants.{True, End, Not, Both, Step, Unknown}
use Rattle.formulas.specs.Lines.{fits, Wellformed, made_of, formulas_from, formula}

-- the formulas of lines behind lines
pub from_append : (fs : List Formula) (xs ys : List Line) → formulas_from fs (xs ++ ys) ≡ formulas_from (formulas_from fs xs) ys
from_append fs [] ys = refl
from_append fs (x ∷ xs) ys = from_append (fs ++ made_of fs x ∷ []) xs ys

pub length_from : (fs : List Formula) (xs : List Line) → length (formulas_from fs xs) ≡ length fs + length xs
length_from fs [] = sym (add-zero (length fs))
length_from fs (x ∷ xs) =
    let h = length_from (fs ++ made_of fs x ∷ []) xs in
    let e = length_push fs (made_of fs x) in
    omega arith

-- earlier formulas stay
pub from_kept : (fs : List Formula) (xs : List Line) (i : ℕ) → i < length fs → get_or (formulas_from fs xs) i T ≡ get_or fs i T
from_kept fs [] i h = refl
from_kept fs (x ∷ xs) i h =
    let e = length_push fs (made_of fs x) in
    from_kept (fs ++ made_of fs x ∷ []) xs i (omega arith) ∙ get_or_append_left fs (made_of fs x ∷ []) T i h

pub formula_append : (xs ys : List Line) (i : ℕ) → i < length xs → formula (xs ++ ys) i ≡ formula xs i
formula_append xs ys i h =
    let n = length_from [] xs in
    ap (λ fs. get_or fs i T) (from_append [] xs ys) ∙ from_kept (formulas_from [] xs) ys i (omega arith)

-- a pushed line leaves the others as they were, and is made of them
pub formula_push_below : (lines : List Line) (l : Line) (i : ℕ) → i < length lines → formula (lines ++ l ∷ []) i ≡ formula lines i
formula_push_below lines l = formula_append lines (l ∷ [])

pub formula_push : (lines : List Line) (l : Line) → formula (lines ++ l ∷ []) (length lines) ≡ made_of (formulas_from [] lines) l
formula_push lines l =
    let n = length_from [] lines in
    ap (λ fs. get_or fs (length lines) T) (from_append [] lines (l ∷ [])) ∙ get_or_push (formulas_from [] lines) (made_of (formulas_from [] lines) l) T (length lines) (omega arith)

-- a front of the lines
pub formula_take : (n : ℕ) (lines : List Line) (i : ℕ) → i < n → i < length lines → formula (take n lines) i ≡ formula lines i
formula_take n lines i h k =
    let e = length-take n lines in
    sym (formula_append (take n lines) (drop n lines) i (omega arith)) ∙ ap (λ ls. formula ls i) (take-append-drop n lines)

-- a line that names earlier lines only is made of the same formulas with more lines behind them
pub made_of_like : (fs gs : List Formula) (k : ℕ) (l : Line) → fits k l ≡ true → ((i : ℕ) → i < k → get_or fs i T ≡ get_or gs i T) → made_of fs l ≡ made_of gs l
made_of_like fs gs k True f same = refl
made_of_like fs gs k End f same = refl
made_of_like fs gs k (Not i) f same = ap N (same i (ltb-true i k f))
made_of_like fs gs k (Both i j) f same =
    let p = and_parts _ _ f in
    let a = same i (ltb-true i k p.0) in
    let b = same j (ltb-true j k p.1) in
    cc
made_of_like fs gs k (Step a i) f same = let p = and_parts _ _ f in ap (D a) (same i (ltb-true i k p.1))
made_of_like fs gs k (Unknown c) f same = refl

-- the formula of a line of well-formed lines
pub formula_at : (lines : List Line) (k : ℕ) → k < length lines → fits k (get_or lines k True) ≡ true → formula lines k ≡ made_of (formulas_from [] lines) (get_or lines k True)
formula_at lines k h f =
    let l = get_or lines k True in
    let n : length (take k lines) ≡ k = let e = length-take k lines in omega arith in
    let front = sym (formula_take (k + 1) lines k (omega arith) h) in
    let pushed : formula (take (k + 1) lines) k ≡ formula (take k lines ++ l ∷ []) k = ap (λ ls. formula ls k) (take_more lines k True h) in
    let last : formula (take k lines ++ l ∷ []) k ≡ made_of (formulas_from [] (take k lines)) l = subst (λ (j : ℕ). formula (take k lines ++ l ∷ []) j ≡ made_of (formulas_from [] (take k lines)) l) n (formula_push (take k lines) l) in
    front ∙ pushed ∙ last ∙ made_of_like (formulas_from [] (take k lines)) (formulas_from [] lines) k l f (λ i b. formula_take k lines i b (omega arith))

pub wellformed_push : (lines : List Line) (l : Line) → Wellformed lines → fits (length lines) l ≡ true → Wellformed (lines ++ l ∷ [])
wellformed_push lines l w f k h = ⊎_elim below last (cases_lt k (length lines))
  where
    below : k < length lines → fits k (get_or (lines ++ l ∷ []) k True) ≡ true
    below b = rw (get_or_append_left lines (l ∷ []) True k b) (w k b)

    last : length lines ≤ k → fits k (get_or (lines ++ l ∷ []) k True) ≡ true
    last b =
        let n = length_push lines l in
        let e : length lines ≡ k = omega arith in
        rw (get_or_push lines l True k e, ← e) f

pub wellformed_take : (n : ℕ) (lines : List Line) → Wellformed lines → Wellformed (take n lines)
wellformed_take n lines w k h =
    let e = length-take n lines in
    rw (get_or-take n lines k True (omega arith)) (w k (omega arith))

pub wellformed_front : (xs ys : List Line) → Wellformed (xs ++ ys) → Wellformed xs
wellformed_front xs ys w k h =
    let e = length-append xs ys in
    let f = w k (omega arith) in
    rw (get_or_append_left xs ys True k h) at f
