-- A submission that reaches the comparison.
use Rattle.std.proofs.Common.{◌≡◌, ℕ, ◌+◌, ◌-◌, ◌*◌, ◌<◌, true, false, cond, ltb, List, length, is_some, Some, None, Ok, Err, Option, Result, sym, refl, ap, ◌∙◌, subst, inl, inr, ⊎_elim, arith}
use Rattle.std.proofs.lemmas.Bool.{lt-ltb, le-ltb, or_left, or_right, or_from, cases_lt}
use Rattle.lts.specs.Copying.{total}
use Rattle.lts.specs.Laws.Stored.{sound_lawful}
use Rattle.lts.specs.Layout.{Procedure, stored}
use Rattle.lts.specs.Meaning.{Meaning, Lawful}
use Rattle.formulas.specs.declared.line.Line.{Line}
use Rattle.comparison.specs.Compared.{Short, Reported, Distinguished, Judged}
use Rattle.comparison.specs.declared.report.Report.{Report}
use Rattle.comparison.specs.declared.report.Verdict.TheVariants.{Same, Different}
use Rattle.accounts.specs.Account.{Account, Alike, with_slot, with_pending}
use Rattle.accounts.specs.Calls.{submit, called_same, called_different, refused, refusal, cramped, Does, refuses, agrees, differs}
use Rattle.accounts.proofs.Keeping.{alike_through}
use Rattle.shelves.specs.Moves.{Admitted, told, reports, Moved, submit_answer, Submitted}
use Rattle.shelves.specs.Faults.{number_of}
use Rattle.shelves.specs.declared.fault.ShelfFault.{ShelfFault}
use Rattle.shelves.specs.declared.fault.ShelfFault.TheVariants.{Slot, Taken, Empty, Pending, Steps, Room, Different as Differs, Nothing, Claims, Clearance as Uncleared}
use Rattle.shelves.specs.Standing.{account, filled, row_account, stored_if, AllKept, Keeps}
use Rattle.shelves.specs.declared.row.Row.{Row}
use Rattle.shelves.proofs.Moving.{moves, slot_of}

-- the row with a pending procedure
abbrev pub with_procedure : Row → Procedure → Row
with_procedure r p = record { baseline = r.baseline; force = r.force; pending = Some p; latest = r.latest }

module _ (n made : ℕ) (rows : List (Option Row)) (s : ℕ) (m : Meaning) (row : Row) (p : Procedure) (lines : List Line) (classes : List ℕ) (open_slot : Admitted (account n rows made) rows s m (Ok (row, p))) where
  -- only the room is left to test
  passed : refusal (account n rows made) (submit s m (length lines) (length classes)) ≡ cond (cramped (stored row.force) m (length lines) (length classes)) (Some 25) None
  passed =
      let l = open_slot.0 in
      rw (le-ltb 7 s (omega arith), open_slot.1, none row.pending open_slot.2, le-ltb 512 (total m) open_slot.3)
    where
      none : (o : Option Procedure) → is_some o ≡ false → is_some (stored_if o) ≡ false
      none None e = e
      none (Some v) e = e

  pub room_does : Short ((stored row.force).count + m.count) lines classes → Does (account n rows made) (submit s m (length lines) (length classes)) (refused 25) (account n rows made)
  room_does h = refuses (passed ∙ rw (⊎_elim few_lines few_classes h))
    where
      few_lines : length lines < 4 * (row.force.states + m.count) - 3 → cramped (stored row.force) m (length lines) (length classes) ≡ true
      few_lines l = or_left (ltb (length lines) (4 * (row.force.states + m.count) - 3)) (ltb (length classes) (row.force.states + m.count)) (lt-ltb (length lines) (4 * (row.force.states + m.count) - 3) l)

      few_classes : length classes < row.force.states + m.count → cramped (stored row.force) m (length lines) (length classes) ≡ true
      few_classes l = or_right (ltb (length lines) (4 * (row.force.states + m.count) - 3)) (ltb (length classes) (row.force.states + m.count)) (lt-ltb (length classes) (row.force.states + m.count) l)

  module _ (report : Report) (lines' : List Line) (classes' : List ℕ) (reported : Reported (stored row.force) m lines classes report lines' classes') where
    admits : refusal (account n rows made) (submit s m (length lines) (length classes)) ≡ None
    admits =
        let e : cramped (stored row.force) m (length lines) (length classes) ≡ false = or_from (ltb (length lines) (4 * (row.force.states + m.count) - 3)) (ltb (length classes) (row.force.states + m.count)) (⊎_elim (λ l. absurd (reported.room (inl l))) (le-ltb (length lines) (4 * (row.force.states + m.count) - 3)) (cases_lt (length lines) (4 * (row.force.states + m.count) - 3))) (⊎_elim (λ l. absurd (reported.room (inr l))) (le-ltb (length classes) (row.force.states + m.count)) (cases_lt (length classes) (row.force.states + m.count))) in
        passed ∙ rw e

    pub different_does : (k i d : ℕ) → report.verdict ≡ Different k i d → Does (account n rows made) (submit s m (length lines) (length classes)) (called_different (told report.verdict lines')) (account n rows made)
    different_does k i d e =
        let h : Distinguished (stored row.force) m report.classes lines k i d lines' = subst (λ v. Judged (stored row.force) m report.classes lines v lines') e reported.verdict in
        rw e (differs admits (slot_of n made rows s row open_slot.1) h.unrelated (h.tells, λ g t. (let b = h.least g t in let q = h.deep in omega arith)))

    same_alike : report.verdict ≡ Same → Alike (stored row.force) m
    same_alike e = (subst (λ v. Judged (stored row.force) m report.classes lines v lines') e reported.verdict).0

    pub same_does : report.verdict ≡ Same → Does (account n rows made) (submit s m (length lines) (length classes)) called_same (with_slot (account n rows made) s (with_pending (filled row) m))
    same_does e = agrees admits (slot_of n made rows s row open_slot.1) (same_alike e)

    pub same_keeps : report.verdict ≡ Same → AllKept rows → Keeps (with_procedure row p)
    same_keeps e all =
        let k = all s row open_slot.1 in
        let a : Alike (stored row.baseline) m = alike_through (stored row.baseline) (stored row.force) m (sound_lawful row.force k.force.0) k.force.1 (same_alike e) in
        record { base = k.base; force = k.force; pending = (open_slot.4, subst (Alike (stored row.baseline)) (sym open_slot.5) a); claim = tt }

  pub pending_row : row_account (Some (with_procedure row p)) ≡ Some (with_pending (filled row) m)
  pending_row = ap (λ z. Some (with_pending (filled row) z)) open_slot.5

-- what a submission promises of its answer
abbrev pub Promised : Account → ℕ → Meaning → List Line → List ℕ → Result Report ShelfFault → Account → List Line → List ℕ → Type 0
Promised a s m lines classes r a' lines' classes' = record { moved : Moved a (submit s m (length lines) (length classes)) (submit_answer r lines') a'; submitted : Submitted a s m lines classes r lines' classes' }

-- a fault without a report leaves the buffers as they were
pub fault_promised : (f : ShelfFault) (a : Account) (s : ℕ) (m : Meaning) (lines : List Line) (classes : List ℕ) → reports f ≡ false → Lawful 128 m → refusal a (submit s m (length lines) (length classes)) ≡ Some (number_of f) → Promised a s m lines classes (Err f) a lines classes
fault_promised Slot a s m lines classes r l e = record { moved = moves {c = submit s m (length lines) (length classes)} l (refuses e); submitted = (refl, refl) }
fault_promised Taken a s m lines classes r l e = record { moved = moves {c = submit s m (length lines) (length classes)} l (refuses e); submitted = (refl, refl) }
fault_promised Empty a s m lines classes r l e = record { moved = moves {c = submit s m (length lines) (length classes)} l (refuses e); submitted = (refl, refl) }
fault_promised Pending a s m lines classes r l e = record { moved = moves {c = submit s m (length lines) (length classes)} l (refuses e); submitted = (refl, refl) }
fault_promised Steps a s m lines classes r l e = record { moved = moves {c = submit s m (length lines) (length classes)} l (refuses e); submitted = (refl, refl) }
fault_promised Room a s m lines classes r l e = record { moved = moves {c = submit s m (length lines) (length classes)} l (refuses e); submitted = (refl, refl) }
fault_promised (Differs report) a s m lines classes r l e = let z : ◌≡◌ {A = ℕ} 0 1 = cc in let b : ⊥ = omega arith in absurd b
fault_promised Nothing a s m lines classes r l e = record { moved = moves {c = submit s m (length lines) (length classes)} l (refuses e); submitted = (refl, refl) }
fault_promised Claims a s m lines classes r l e = record { moved = moves {c = submit s m (length lines) (length classes)} l (refuses e); submitted = (refl, refl) }
fault_promised Uncleared a s m lines classes r l e = record { moved = moves {c = submit s m (length lines) (length classes)} l (refuses e); submitted = (refl, refl) }

-- too few places
pub room_promised : (f : ShelfFault) (a : Account) (s : ℕ) (m : Meaning) (lines lines' : List Line) (classes classes' : List ℕ) → f ≡ Room → lines' ≡ lines → classes' ≡ classes → Lawful 128 m → Does a (submit s m (length lines) (length classes)) (refused 25) a → Promised a s m lines classes (Err f) a lines' classes'
room_promised f a s m lines lines' classes classes' e l c law d = rw e (record { moved = moves {c = submit s m (length lines) (length classes)} law d; submitted = (l, c) })
