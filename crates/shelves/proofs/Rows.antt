-- What a call finds and leaves in the rows.
use Rattle.std.proofs.Common.{◌≡◌, ℕ, ◌<◌, ◌≤◌, false, List, [], get_or, replicate, is_some, Some, None, Ok, Option, sym, ap, subst, ⊎_elim, arith}
use Rattle.std.proofs.lemmas.Bool.{le-ltb, cases_lt}
use Rattle.std.proofs.lemmas.List.{get_or-replicate, get_or_past}
use Rattle.lts.specs.Copying.{total}
use Rattle.lts.specs.Layout.{Procedure, Sound, stored}
use Rattle.lts.specs.Meaning.{Meaning}
use Rattle.accounts.specs.Account.{new, fresh}
use Rattle.accounts.specs.Calls.{Run, start}
use Rattle.theory.proofs.Relations.{related_reflexive}
use Rattle.shelves.specs.Moves.{Filing}
use Rattle.shelves.specs.Standing.{account, row_account, AllKept, Reached}
use Rattle.shelves.specs.declared.row.Row.{Row}

-- empty slots
abbrev pub empties : List (Option Row)
empties = replicate 8 None

pub empty_slot : (s : ℕ) → get_or empties s None ≡ None
empty_slot s = ⊎_elim (get_or-replicate 8 s None None) (get_or_past empties s None) (cases_lt s 8)

pub new_account : (n : ℕ) → account n empties 0 ≡ new n
new_account n = let e : (s : ℕ) → row_account (get_or empties s None) ≡ None = λ s. ap row_account (empty_slot s) in λ i. record { number = n; slots = λ s. e s i; made = 0 }

pub new_kept : AllKept empties
new_kept s r e = let f = empty_slot s in let z : ◌≡◌ {A = ℕ} 0 1 = cc in let b : ⊥ = omega arith in absurd b

pub new_reached : (n : ℕ) → Reached n empties 0
new_reached n = ([], subst (λ a. Run n [] a) (sym (new_account n)) start)

-- an empty slot and a source that was copied
pub filing_row : (n : ℕ) (rows : List (Option Row)) (made s : ℕ) (m : Meaning) (p : Procedure) → s < 8 → is_some (get_or rows s None) ≡ false → total m ≤ 512 → Sound p → stored p ≡ m → Filing (account n rows made) s m (Ok (record { baseline = p; force = p; pending = None; latest = None }))
filing_row n rows made s m p l e t q f =
    (rw (le-ltb 7 s (omega arith), empty (get_or rows s None) e, le-ltb 512 (total m) t), l, record { base = q; force = (q, related_reflexive (stored p) 0); pending = tt; claim = tt }, ap (λ z. Some (fresh z)) f)
  where
    empty : (o : Option Row) → is_some o ≡ false → is_some (row_account o) ≡ false
    empty None z = z
    empty (Some r) z = z
