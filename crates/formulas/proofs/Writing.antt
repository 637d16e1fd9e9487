-- One mark more in the buffer.
use Rattle.std.proofs.Common.{◌≡◌, ℕ, ◌+◌, ◌*◌, ◌<◌, ◌≤◌, Bool, true, false, ◌≢◌, List, length, get_or, drop, set, Decides, refl, ◌∙◌, inl, inr, ⊎_elim, arith}
use mir.Val.{bool_byte}
use Rattle.std.proofs.lemmas.List.{get_or-set_same, get_or-set_other, drop-set-lt}
use Rattle.std.proofs.lemmas.Bool.{cases_lt}
use Rattle.lts.specs.Meaning.{Meaning}
use Rattle.theory.specs.Formulas.{Holds}
use Rattle.formulas.specs.declared.line.Line.{Line}
use Rattle.formulas.specs.Lines.{formula}
use Rattle.formulas.specs.Evaluation.{Marks, RowMarked, RowsMarked}
use Rattle.formulas.proofs.Marking.{place_below}

-- the mark of a decision
pub mark_of : (b : Bool) (P : Type 0) → Decides b P → Marks (bool_byte b) P
mark_of true P d = inl (refl, d.0 refl)
mark_of false P d = inr (refl, λ p. let e = d.1 p in let z : ◌≡◌ {A = ℕ} 0 1 = cc in omega arith)

-- a place of the table lies in the buffer; n is the number of states, of which there are `count`
pub place_in_table : (k s most count n room : ℕ) → n ≡ count → k < most → s < n → most * count ≤ room → k * n + s < room
place_in_table k s most count n room e h l fits =
    let p = place_below k most count s h (omega arith) in
    rw e (omega arith)

-- the lines below k, and line k
pub rows_more : (m : Meaning) (lines : List Line) (k : ℕ) (work : List ℕ) → RowsMarked m lines k work → RowMarked m lines k m.count work → RowsMarked m lines (k + 1) work
rows_more m lines k work before row i h = ⊎_elim (before i) last (cases_lt i k)
  where
    last : k ≤ i → RowMarked m lines i m.count work
    last l = let e : i ≡ k = omega arith in rw e row

-- x is written for line k at state s; n is the number of states
module _ (m : Meaning) (lines : List Line) (k s x n : ℕ) (work : List ℕ) (states : n ≡ m.count) (l : s < n) where
  pub write_after : RowsMarked m lines k work → RowsMarked m lines k (set work (k * n + s) x)
  write_after before i h t lt =
      let p = place_below i k m.count t h lt in
      let ne : i * m.count + t ≢ k * m.count + s = omega arith in
      rw (states, get_or-set_other work (k * m.count + s) (i * m.count + t) x 0 ne) (before i h t lt)

  pub write_next : k * n + s < length work → Marks x (Holds m s (formula lines k)) → RowMarked m lines k s work → RowMarked m lines k (s + 1) (set work (k * n + s) x)
  write_next room new row t h = rw states (⊎_elim below last (cases_lt t s))
    where
      below : t < s → Marks (get_or (set work (k * m.count + s) x) (k * m.count + t) 0) (Holds m t (formula lines k))
      below lt =
          let ne : k * m.count + t ≢ k * m.count + s = omega arith in
          rw (get_or-set_other work (k * m.count + s) (k * m.count + t) x 0 ne) (row t lt)

      last : s ≤ t → Marks (get_or (set work (k * m.count + s) x) (k * m.count + t) 0) (Holds m t (formula lines k))
      last le =
          let e : t ≡ s = omega arith in
          let r : k * m.count + s < length work = rw states at room in
          rw (e, get_or-set_same work (k * m.count + s) x 0 r) new

  pub write_keeps : k < length lines → (old : List ℕ) → drop (length lines * m.count) work ≡ drop (length lines * m.count) old → drop (length lines * m.count) (set work (k * n + s) x) ≡ drop (length lines * m.count) old
  write_keeps h old kept =
      let p = place_below k (length lines) m.count s h (omega arith) in
      rw states (drop-set-lt (length lines * m.count) work (k * m.count + s) x p ∙ kept)
