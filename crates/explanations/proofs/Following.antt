-- A way is followed step by step.
use Rattle.std.proofs.Common.{◌≡◌, ℕ, ◌+◌, ◌*◌, ◌<◌, ◌≤◌, List, [], ◌∷◌, ◌++◌, length, get_or, take, drop, Some, None, Option, sym, refl, ap, ◌∙◌, subst, inl, inr, append_assoc, append-nil, arith}
use Rattle.std.specs.List.{slice_get}
use Rattle.std.proofs.lemmas.List.{get_or-drop, take_more}
use Rattle.lts.specs.Meaning.{Meaning, Lawful}
use Rattle.lts.specs.Laws.Member.{nth_in, in_nth}
use Rattle.theory.specs.Formulas.{Formula, T, E, N, A, D, Holds}
use Rattle.formulas.specs.declared.fault.EvaluationFault.{EvaluationFault}
use Rattle.formulas.specs.declared.line.Line.{Line}
use Rattle.formulas.specs.Faults.{first_fault}
use Rattle.formulas.proofs.Rows.{not_refused}
use Rattle.formulas.specs.Evaluation.{Marks}
use Rattle.formulas.specs.Lines.{Wellformed, formula}
use Rattle.formulas.specs.Marked.{FirstMarked}
use Rattle.explanations.specs.Ways.{first_of, lead, First, Marked, Way, move_text, moves_text}
use Rattle.explanations.specs.declared.formula.FormulaLine.{FormulaLine}
use Rattle.explanations.specs.Parts.{Leads}

-- the steps so far lead from the start to state s, and what is left to follow is the way of line i there
pub record Underway (m : Meaning) (lines : List Line) (start : ℕ) (steps : List (ℕ × ℕ)) (s i : ℕ) : Type 0 where
  pub inside : i < length lines
  pub state : s < m.count
  pub holds : Holds m s (formula lines i)
  pub goes_on : (rest : List (ℕ × ℕ)) → Way m s (formula lines i) rest → Way m 0 (formula lines start) (steps ++ rest)

-- what a formula asks for first holds where it does
lead_holds : (m : Meaning) (s : ℕ) (f : Formula) (a : ℕ) (g : Formula) → lead f ≡ Some (a, g) → Holds m s f → Holds m s (D a g)
lead_holds m s T a g e h = let z : ◌≡◌ {A = ℕ} 0 1 = cc in let b : ⊥ = omega arith in absurd b
lead_holds m s E a g e h = let z : ◌≡◌ {A = ℕ} 0 1 = cc in let b : ⊥ = omega arith in absurd b
lead_holds m s (N f) a g e h = let z : ◌≡◌ {A = ℕ} 0 1 = cc in let b : ⊥ = omega arith in absurd b
lead_holds m s (A f f') a g e h =
    by_first (lead f) refl (λ q. lead_holds m s f a g q h.0) (λ q. lead_holds m s f' a g q h.1)
  where
    by_first : (o : Option (ℕ × Formula)) → lead f ≡ o → (lead f ≡ Some (a, g) → Holds m s (D a g)) → (lead f' ≡ Some (a, g) → Holds m s (D a g)) → Holds m s (D a g)
    by_first None q one two = two (sym (ap (λ o. first_of o (lead f')) q) ∙ e)
    by_first (Some x) q one two = one (q ∙ (sym (ap (λ o. first_of o (lead f')) q) ∙ e))
lead_holds m s (D b f) a g e h =
    let q : ◌≡◌ {A = ℕ × Formula} (b, f) (a, g) = cc in
    subst (λ (x : ℕ × Formula). Holds m s (D x.0 x.1)) q h

-- the mark of line i at state t, in row i
mark_in_row : (m : Meaning) (lines : List Line) (work row : List ℕ) (n i t : ℕ) → Marked m lines work → n ≡ m.count → row ≡ drop (i * n) work → i < length lines → t < m.count → Marks (get_or row t 0) (Holds m t (formula lines i))
mark_in_row m lines work row n i t marked e r h l =
    let x = marked.marks i h t l in
    let q : get_or row t 0 ≡ get_or work (i * m.count + t) 0 = ap (λ ys. get_or ys t 0) r ∙ (get_or-drop (i * n) work t 0 ∙ ap (λ k. get_or work (i * k + t) 0) e) in
    rw q x

marked_holds : (x : ℕ) (P : Type 0) → Marks x P → x ≡ 1 → P
marked_holds x P (inl h) e = h.1
marked_holds x P (inr h) e = let b : ⊥ = omega (arith, h.0) in absurd b

holds_marked : (x : ℕ) (P : Type 0) → Marks x P → P → x ≡ 1
holds_marked x P (inl h) p = h.0
holds_marked x P (inr h) p = absurd (h.1 p)

module _ {m : Meaning} {most : ℕ} (lawful : Lawful most m) (lines : List Line) (work row : List ℕ) (n s a i : ℕ) (marked : Marked m lines work) (e : n ≡ m.count) (r : row ≡ drop (i * n) work) (h : i < length lines) where
  -- a step that is found by the marks
  pub first_by_marks : (t : ℕ) → FirstMarked (m.steps s) a row (Some t) → First m s a (formula lines i) t
  first_by_marks t f =
      let at : (u k : ℕ) → slice_get (m.steps s) k ≡ Some (a, u) → Marks (get_or row u 0) (Holds m u (formula lines i)) = λ u k p. mark_in_row m lines work row n i u marked e r h (lawful.aims s a u (nth_in (a, u) (m.steps s) k p)) in
      record { place = f.0; listed = f.1; holds = marked_holds _ _ (at t f.0 f.1) f.2; none_before = λ k u l p q. f.3 k u l p (holds_marked _ _ (at u k p) q) }

  -- some step is found
  pub found_by_marks : FirstMarked (m.steps s) a row None → Holds m s (D a (formula lines i)) → ⊥
  found_by_marks f x =
      let p = in_nth (a, x.0) (m.steps s) x.1 in
      let mark = mark_in_row m lines work row n i x.0 marked e r h (lawful.aims s a x.0 x.1) in
      f p.0 x.0 p.1 (holds_marked _ _ mark x.2)

-- one step more
module _ (m : Meaning) {most : ℕ} (lawful : Lawful most m) (lines : List Line) (start : ℕ) (steps : List (ℕ × ℕ)) (s i a j : ℕ) (u : Underway m lines start steps s i) (led : (j < i) × (lead (formula lines i) ≡ Some (a, formula lines j))) where
  pub holds_lead : Holds m s (D a (formula lines j))
  holds_lead = lead_holds m s (formula lines i) a (formula lines j) led.1 u.holds

  pub step_further : (t : ℕ) → First m s a (formula lines j) t → Underway m lines start (steps ++ (a, t) ∷ []) t j
  step_further t f =
      let l = u.inside in
      let l' = led.0 in
      record {
        inside = omega arith;
        state = lawful.aims s a t (nth_in (a, t) (m.steps s) f.place f.listed);
        holds = f.holds;
        goes_on = λ rest w. subst (λ xs. Way m 0 (formula lines start) xs) (sym (append_assoc steps ((a, t) ∷ []) rest)) (u.goes_on ((a, t) ∷ rest) (formula lines j, led.1, f, w));
      }

pub way_whole : (m : Meaning) (lines : List Line) (start : ℕ) (steps : List (ℕ × ℕ)) (s i : ℕ) → Underway m lines start steps s i → lead (formula lines i) ≡ None → Way m 0 (formula lines start) steps
way_whole m lines start steps s i u e = subst (λ xs. Way m 0 (formula lines start) xs) (append-nil steps) (u.goes_on [] e)

-- the evaluation is not refused
pub not_refused_at_start : (m : Meaning) {most : ℕ} (lawful : Lawful most m) (lines : List Line) (i room : ℕ) (fault : EvaluationFault) → Wellformed lines → length lines ≤ 1024 → i < length lines → length lines * m.count ≤ room → first_fault lines i 0 m.count room ≡ Some fault → ⊥
not_refused_at_start m lawful lines i room fault w f l r e =
    let s = lawful.some in
    let n = not_refused lines i 0 m.count room (record { some = omega arith; few = f; wellformed = w; line = l; state = omega arith; fits = r }) in
    let z : ◌≡◌ {A = ℕ} 0 1 = cc in
    omega arith

-- where the steps lead from state s
abbrev pub reached : ℕ → List (ℕ × ℕ) → ℕ
reached s [] = s
reached s (step ∷ steps) = reached step.1 steps

reached_more : (s : ℕ) (steps : List (ℕ × ℕ)) (step : ℕ × ℕ) → reached s (steps ++ step ∷ []) ≡ step.1
reached_more s [] step = refl
reached_more s (x ∷ steps) step = reached_more x.1 steps step

moves_text_more : (s : ℕ) (steps : List (ℕ × ℕ)) (step : ℕ × ℕ) → moves_text s (steps ++ step ∷ []) ≡ moves_text s steps ++ move_text (reached s steps) step
moves_text_more s [] step = append-nil (move_text s step)
moves_text_more s (x ∷ steps) step = ap (λ z. move_text s x ++ z) (moves_text_more x.1 steps step) ∙ sym (append_assoc (move_text s x) (moves_text x.1 steps) (move_text (reached x.1 steps) step))

-- one step more is told, out of the state that those before lead to
pub move_more : (steps : List (ℕ × ℕ)) (k s : ℕ) (first out out' : List ℕ) → k < length steps → s ≡ reached 0 (take k steps) → out ≡ first ++ moves_text 0 (take k steps) → out' ≡ out ++ move_text s (get_or steps k (0, 0)) → ((get_or steps k (0, 0)).1 ≡ reached 0 (take (k + 1) steps)) × (out' ≡ first ++ moves_text 0 (take (k + 1) steps))
move_more steps k s first out out' h at e f =
    let step = get_or steps k (0, 0) in
    let more = take_more steps k (0, 0) h in
    let told : out' ≡ first ++ (moves_text 0 (take k steps) ++ move_text (reached 0 (take k steps)) step) = f ∙ ((λ i. e i ++ ap (λ n. move_text n step) at i) ∙ append_assoc first (moves_text 0 (take k steps)) (move_text (reached 0 (take k steps)) step)) in (
      sym (ap (reached 0) more ∙ reached_more 0 (take k steps) step),
      told ∙ ap (λ z. first ++ z) (sym (ap (moves_text 0) more ∙ moves_text_more 0 (take k steps) step)),
    )

-- what a formula asks for first, said of all the lines
pub leads_over : (lines : List Line) (f next : FormulaLine) (a : ℕ) → f.lines.now ≡ lines → Leads f (Some (a, next)) → (next.lines.now ≡ lines) × (next.line < f.line) × (lead (formula lines f.line) ≡ Some (a, formula lines next.line))
leads_over lines f next a e l =
    let same = l.0.1 ∙ e in
    (same, l.0.0, ap (λ xs. lead (formula xs f.line)) (sym e) ∙ (l.1 ∙ ap (λ xs. Some (a, formula xs next.line)) same))
