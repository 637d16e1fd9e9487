-- A search through the steps of a state.
use Rattle.std.proofs.Common.{◌≡◌, ◌==◌, ◌≢◌, ℕ, ◌<◌, ◌&&◌, Bool, true, false, not, List, get_or, Some, None, Option, Decides, is_some, refl, sym, subst, ◌∙◌, arith}
use Rattle.std.specs.List.{slice_get, find, position_or_len}
use Rattle.std.proofs.lemmas.Bool.{not-true, not-false, and_parts, eq-eqb, eqb-true}
use Rattle.std.proofs.lemmas.List.Folds.{find_at}
use Rattle.std.proofs.lemmas.List.Sums.{prefix_len_passes, prefix_len_stops}
use Rattle.std.proofs.lemmas.Option.{slice_get_within, get_or_from_slice_get}
use Rattle.lts.specs.Laws.Member.{nth_in, in_nth, nth_missing}
use Rattle.formulas.specs.Evaluation.{Enters}
use Rattle.formulas.specs.Marked.{FirstMarked}

module _ (a : ℕ) (row : List ℕ) (steps : List (ℕ × ℕ)) where
  -- a step by the action to a marked state
  abbrev leads : ℕ × ℕ → Bool
  leads x = (x.0 == a) && (get_or row x.1 0 == 1)

  -- the place of the first such step
  abbrev place : ℕ
  place = position_or_len leads steps

  none_before : (k u : ℕ) → k < place → slice_get steps k ≡ Some (a, u) → get_or row u 0 ≢ 1
  none_before k u l at mark =
      let no = not-true (leads (get_or steps k (a, u))) (prefix_len_passes (λ x. not (leads x)) steps k (a, u) l) in
      let same = get_or_from_slice_get steps k (a, u) (a, u) at in
      let no' : leads (a, u) ≡ false = rw same at no in
      let yes : leads (a, u) ≡ true = rw (eq-eqb a a refl, eq-eqb (get_or row u 0) 1 mark) refl in
      let z : ◌≡◌ {A = ℕ} 0 1 = cc in
      omega arith

  pub first_found : (x : ℕ × ℕ) → Some x ≡ find leads steps → FirstMarked steps a row (Some x.1)
  first_found x e =
      let at : slice_get steps place ≡ Some x = sym (e ∙ find_at leads steps) in
      let stops = not-false _ (prefix_len_stops (λ x. not (leads x)) steps x (slice_get_within steps place x at)) in
      let same = get_or_from_slice_get steps place x x at in
      let yes : leads x ≡ true = rw same at stops in
      let parts = and_parts (x.0 == a) (get_or row x.1 0 == 1) yes in
      let acts = eqb-true x.0 a parts.0 in
      let marks = eqb-true (get_or row x.1 0) 1 parts.1 in
      let at' : slice_get steps place ≡ Some (a, x.1) = subst (λ (b : ℕ). slice_get steps place ≡ Some (b, x.1)) acts at in
      (place, at', marks, none_before)

  pub none_found : None ≡ find leads steps → FirstMarked steps a row None
  none_found e k u at =
      let past = nth_missing steps place (e ∙ find_at leads steps) in
      let inside = slice_get_within steps k (a, u) at in
      none_before k u (omega arith) at

pub decided : (steps : List (ℕ × ℕ)) (a : ℕ) (row : List ℕ) (r : Option ℕ) → FirstMarked steps a row r → Decides (is_some r) (Enters steps a row)
decided steps a row None h = (λ e. let z : ◌≡◌ {A = ℕ} 0 1 = cc in let b : ⊥ = omega arith in absurd b, λ e. let p = in_nth (a, e.0) steps e.1 in absurd (h p.0 e.0 p.1 e.2))
decided steps a row (Some t) h = (λ _. (t, nth_in (a, t) steps h.0 h.1, h.2), λ _. refl)
