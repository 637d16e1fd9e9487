-- What passes the rows of refusals.
use Rattle.std.proofs.Common.{◌≡◌, ℕ, ◌*◌, ◌<◌, ◌≤◌, Bool, true, false, cond, List, length, Some, None, Option, sym, refl, arith}
use Rattle.std.proofs.lemmas.Bool.{eqb-false, ltb-false, leb-false, ne_eqb, le-ltb, lt-leb, or_parts, or_from}
use Rattle.formulas.specs.declared.line.Line.{Line}
use Rattle.formulas.specs.declared.fault.EvaluationFault.{EvaluationFault}
use Rattle.formulas.specs.Lines.{Wellformed}
use Rattle.formulas.specs.Faults.{misfit_from, count_row, line_row, absent_row, room_row, or_else, first_fault}
use Rattle.formulas.proofs.Misfits.{wellformed_of, of_wellformed}

-- what every evaluation that is not refused has
pub record Admitted (lines : List Line) (i s count room : ℕ) : Type 0 where
  pub some : 1 ≤ length lines
  pub few : length lines ≤ 1024
  pub wellformed : Wellformed lines
  pub line : i < length lines
  pub state : s < count
  pub fits : length lines * count ≤ room

both_pass : (row next : Option EvaluationFault) → or_else row next ≡ None → (row ≡ None) × (next ≡ None)
both_pass None next e = (refl, e)
both_pass (Some fault) next e = let z : ◌≡◌ {A = ℕ} 0 1 = cc in let b : ⊥ = omega arith in absurd b

test_passes : (b : Bool) (fault : EvaluationFault) → cond b (Some fault) None ≡ None → b ≡ false
test_passes true fault e = let z : ◌≡◌ {A = ℕ} 0 1 = cc in let b : ⊥ = omega arith in absurd b
test_passes false fault e = refl

line_passes : (o : Option ℕ) → line_row o ≡ None → o ≡ None
line_passes None e = refl
line_passes (Some k) e = let z : ◌≡◌ {A = ℕ} 0 1 = cc in let b : ⊥ = omega arith in absurd b

module _ (lines : List Line) (i s count room : ℕ) where
  pub admitted : None ≡ first_fault lines i s count room → Admitted lines i s count room
  admitted e =
      let a = both_pass (count_row lines) _ (sym e) in
      let b = both_pass (line_row (misfit_from 0 lines)) _ a.1 in
      let c = both_pass (absent_row lines i s count) (room_row lines count room) b.1 in
      let n = or_parts _ _ (test_passes _ _ a.0) in
      let z = eqb-false (length lines) 0 n.0 in
      let some : 1 ≤ length lines = omega (arith, z) in
      let p = or_parts _ _ (test_passes _ _ c.0) in
      record { some = some; few = ltb-false 1024 (length lines) n.1; wellformed = wellformed_of lines (line_passes _ b.0); line = leb-false (length lines) i p.0; state = leb-false count s p.1; fits = ltb-false room (length lines * count) (test_passes _ _ c.1) }

  pub not_refused : Admitted lines i s count room → first_fault lines i s count room ≡ None
  not_refused h =
      let a = or_from _ _ (ne_eqb (length lines) 0 (omega (arith, h.some))) (le-ltb 1024 (length lines) h.few) in
      let b = of_wellformed lines h.wellformed in
      let c = or_from _ _ (lt-leb (length lines) i h.line) (lt-leb count s h.state) in
      let d = le-ltb room (length lines * count) h.fits in
      rw (a, b, c, d) refl
