-- How rows are written piece by piece.
use Rattle.std.proofs.Common.{◌≡◌, ℕ, zero, suc, ◌+◌, ◌^◌, ◌<◌, ◌≤◌, Bool, false, not, ◌&&◌, eqb, List, [], ◌∷◌, ◌++◌, length, get_or, drop, Some, None, sum_by, sym, refl, ap, ◌∙◌, subst, append_assoc, append-nil, arith}
use Rattle.std.specs.List.{slice_get, range_with_len}
use Rattle.std.proofs.lemmas.List.FromFn.{length-range_with_len}
use Rattle.std.proofs.lemmas.List.Sums.{sum_by-le}
use Rattle.std.proofs.lemmas.Bool.{ne_eqb}
use Rattle.std.proofs.lemmas.Bool.Decides.{nat_tests}
use Rattle.lts.specs.Meaning.{Meaning, Lawful}
use Rattle.drawings.specs.Texts.{step_text, steps_text, transitions_of}
use Rattle.drawings.specs.declared.form.Form.{Form}

-- behind k steps: the steps that are left, behind what was written, make the whole
abbrev pub Stepped : Form → ℕ → Bool → List (ℕ × ℕ) → ℕ → List (ℕ × ℕ) → List ℕ → List ℕ → Type 0
Stepped form s end steps k left first out = out ++ steps_text form s (eqb k 0 && not end) left ≡ first ++ steps_text form s (not end) steps

module _ (form : Form) (s : ℕ) (end : Bool) (steps : List (ℕ × ℕ)) (k : ℕ) (left : List (ℕ × ℕ)) (first out : List ℕ) (h : Stepped form s end steps k left first out) where
  pub stepped_more : (x : ℕ × ℕ) (rest : List (ℕ × ℕ)) (out' : List ℕ) → left ≡ x ∷ rest → out' ≡ out ++ step_text form s (eqb k 0 && not end) x → Stepped form s end steps (k + 1) rest first out'
  stepped_more x rest out' d o =
      let h' : out ++ (step_text form s (eqb k 0 && not end) x ++ steps_text form s false rest) ≡ first ++ steps_text form s (not end) steps = subst (λ zs. out ++ steps_text form s (eqb k 0 && not end) zs ≡ first ++ steps_text form s (not end) steps) d h in
      let n : eqb (k + 1) 0 ≡ false = ne_eqb (k + 1) 0 (λ z. (let b : ⊥ = omega arith in b)) in
      rw (n, o) (append_assoc out (step_text form s (eqb k 0 && not end) x) (steps_text form s false rest) ∙ h')

  pub stepped_all : left ≡ [] → out ≡ first ++ steps_text form s (not end) steps
  stepped_all e =
      let h' : out ++ [] ≡ first ++ steps_text form s (not end) steps = subst (λ zs. out ++ steps_text form s (eqb k 0 && not end) zs ≡ first ++ steps_text form s (not end) steps) e h in
      sym (append-nil out) ∙ h'

-- the transitions of a procedure are few
pub transitions_few : (m : Meaning) → Lawful 256 m → sum_by (transitions_of m) (range_with_len 0 m.count) < 2 ^ 64
transitions_few m lawful =
    let states = range_with_len 0 m.count in
    let all = sum_by-le (transitions_of m) 4097 states (λ k d h. each (get_or states k d)) in
    let l = length-range_with_len 0 m.count in
    let few = lawful.few in
    omega arith
  where
    each : (s : ℕ) → transitions_of m s ≤ 4097
    each s = let short = lawful.short s in grind (arith, nat_tests)
