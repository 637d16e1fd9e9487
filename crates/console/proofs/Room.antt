-- A submission of the console has room enough.
use Rattle.std.proofs.Common.{◌≡◌, ℕ, ◌+◌, ◌-◌, ◌*◌, ◌≤◌, Bool, true, false, cond, ltb, List, get_or, is_some, Some, None, Option, refl, arith}
use Rattle.std.proofs.lemmas.Bool.{le-ltb, or_from}
use Rattle.lts.specs.Copying.{total}
use Rattle.lts.specs.Laws.Stored.{sound_lawful}
use Rattle.lts.specs.Layout.{stored}
use Rattle.lts.specs.Meaning.{Meaning, Lawful}
use Rattle.accounts.specs.Account.{Account}
use Rattle.accounts.specs.Calls.{in_slot, cramped, refused, Does, refuses}
use Rattle.accounts.proofs.Determined.{never}
use Rattle.shelves.proofs.Viewing.{force_sound}
use Rattle.shelves.specs.Standing.{account, filled, row_account, AllKept}
use Rattle.shelves.specs.declared.row.Row.{Row}
use Rattle.console.specs.Handling.{submission}

-- two procedures of at most 128 states
uncramped : (p q : Meaning) → p.count ≤ 128 → q.count ≤ 128 → cramped p q 1021 256 ≡ false
uncramped p q l m = or_from (ltb 1021 (4 * (p.count + q.count) - 3)) (ltb 256 (p.count + q.count)) (le-ltb 1021 (4 * (p.count + q.count) - 3) (omega arith)) (le-ltb 256 (p.count + q.count) (omega arith))

-- the rows behind an open slot, with room enough
other_rows : (n : ℕ) (pending many tight : Bool) → tight ≡ false → ◌≡◌ {A = Option ℕ} (cond pending (Some 23) (cond many (Some 24) (cond tight (Some 25) None))) (Some n) → n ≡ 25 → ⊥
other_rows n true many tight e h q = never (cc)
other_rows n false true tight e h q = never (cc)
other_rows n false false true e h q = never (cc)
other_rows n false false false e h q = never (cc)

module _ (number made : ℕ) (rows : List (Option Row)) (kept : ∥ AllKept rows ∥₁) (s : ℕ) {m : Meaning} (lawful : Lawful 128 m) where
  few : (row : Row) → get_or rows s None ≡ Some row → cramped (stored row.force) m 1021 256 ≡ false
  few row e = uncramped (stored row.force) m (sound_lawful row.force (force_sound rows s row kept e)).few lawful.few

  slot_rows : (n : ℕ) (above : Bool) (o : Option Row) → get_or rows s None ≡ o → ◌≡◌ {A = Option ℕ} (cond above (Some 20) (in_slot (row_account o) (Some 22) (λ x. cond (is_some x.pending) (Some 23) (cond (ltb 512 (total m)) (Some 24) (cond (cramped x.force m 1021 256) (Some 25) None))))) (Some n) → n ≡ 25 → ⊥
  slot_rows n true o e h q = never (cc)
  slot_rows n false None e h q = never (cc)
  slot_rows n false (Some row) e h q = other_rows n (is_some (filled row).pending) (ltb 512 (total m)) (cramped (stored row.force) m 1021 256) (few row e) h q

  pub roomy : {n : ℕ} {a : Account} → Does (account number rows made) (submission s m) (refused n) a → n ≡ 25 → ⊥
  roomy {n} (refuses e) = slot_rows n (ltb 7 s) (get_or rows s None) refl e
