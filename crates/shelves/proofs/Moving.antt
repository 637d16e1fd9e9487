-- One row put into the table, held against the account.
use Rattle.std.proofs.Common.{◌≡◌, ℕ, ◌<◌, true, cond, eqb, List, ◌∷◌, length, get_or, set, is_some, Some, None, Option, sym, ap, ◌∙◌, subst, ⊎_elim, arith, length-set}
use mathlib.Core.Logic.{∥∥₁_map}
use Rattle.std.proofs.lemmas.List.{get_or-set_same, get_or-set_other}
use Rattle.std.proofs.lemmas.Bool.{cases_eq, eq-eqb, ne_eqb}
use Rattle.lts.specs.Layout.{Procedure}
use Rattle.accounts.specs.Account.{Account, Filled, with_slot, with_claim}
use Rattle.accounts.specs.Calls.{Call, Answer, Event, LawfulCall, Does, Run, more}
use Rattle.accounts.specs.Law.{Law}
use Rattle.accounts.proofs.Lasting.{lasting}
use Rattle.shelves.specs.Standing.{account, filled, row_account, Claimable, AllKept, Reached, Keeps}
use Rattle.shelves.specs.Moves.{Moved, claimed}
use Rattle.shelves.specs.declared.row.Row.{Row}

module _ (n made : ℕ) (rows : List (Option Row)) (s : ℕ) (row : Row) (x : Filled) (inside : s < 8) (room : length rows ≡ 8) (means : row_account (Some row) ≡ Some x) where
  slot_after : (t : ℕ) → row_account (get_or (set rows s (Some row)) t None) ≡ cond (eqb t s) (Some x) (row_account (get_or rows t None))
  slot_after t = ⊎_elim here there (cases_eq t s)
    where
      here : t ≡ s → row_account (get_or (set rows s (Some row)) t None) ≡ cond (eqb t s) (Some x) (row_account (get_or rows t None))
      here e = rw (eq-eqb t s e) (rw e (ap row_account (get_or-set_same rows s (Some row) None (omega arith)) ∙ means))

      there : (t ≡ s → ⊥) → row_account (get_or (set rows s (Some row)) t None) ≡ cond (eqb t s) (Some x) (row_account (get_or rows t None))
      there e = rw (ne_eqb t s e) (ap row_account (get_or-set_other rows s t (Some row) None e))

  pub put_account : account n (set rows s (Some row)) made ≡ with_slot (account n rows made) s x
  put_account = λ i. record { number = n; slots = λ t. slot_after t i; made = made }

pub put_kept : (rows : List (Option Row)) (s : ℕ) (row : Row) → s < length rows → Keeps row → AllKept rows → AllKept (set rows s (Some row))
put_kept rows s row l new old t r e = ⊎_elim here there (cases_eq t s)
  where
    here : t ≡ s → Keeps r
    here q = let g = get_or-set_same rows s (Some row) None l in let f : get_or (set rows s (Some row)) s None ≡ Some r = rw q at e in let z : row ≡ r = cc in subst Keeps z new

    there : (t ≡ s → ⊥) → Keeps r
    there q = old t r (sym (get_or-set_other rows s t (Some row) None q) ∙ e)

-- a run with one call more
pub law_more : (n : ℕ) (c : Call) (r : Answer) (a a' : Account) → LawfulCall c → Does a c r a' → (es : List Event) → Run n es a → Run n (record { call = c; answer = r } ∷ es) a' × Law n (record { call = c; answer = r } ∷ es)
law_more n c r a a' l d es run =
    let longer : Run n (record { call = c; answer = r } ∷ es) a' = more run l d in
    (longer, lasting n (record { call = c; answer = r } ∷ es) a' longer)

pub reached_more : (n made made' : ℕ) (rows rows' : List (Option Row)) (c : Call) (r : Answer) → LawfulCall c → Does (account n rows made) c r (account n rows' made') → Reached n rows made → Reached n rows' made'
reached_more n made made' rows rows' c r l d h = (record { call = c; answer = r } ∷ h.0, more h.1 l d)

pub moves : {a : Account} {c : Call} {r : Answer} {a' : Account} → LawfulCall c → Does a c r a' → Moved a c r a'
moves {a} {c} {r} {a'} l d = record { does = d; law = law_more a.number c r a a' l d }

-- what the shelf's type keeps after one row was put
module _ (n made made' : ℕ) (rows rows' : List (Option Row)) (s : ℕ) (row : Row) (x : Filled) (c : Call) (r : Answer) (inside : s < 8) (room : length rows ≡ 8) (put : rows' ≡ set rows s (Some row)) (means : row_account (Some row) ≡ Some x) (lawful : LawfulCall c) (does : Does (account n rows made) c r (with_slot (account n rows made') s x)) where
  pub put_does : Does (account n rows made) c r (account n rows' made')
  put_does = subst (λ a. Does (account n rows made) c r a) (sym (ap (λ zs. account n zs made') put ∙ put_account n made' rows s row x inside room means)) does

  pub put_ghost : (AllKept rows → Keeps row) → ∥ AllKept rows ∥₁ → ∥ Reached n rows made ∥₁ → (length rows' ≡ 8) × ∥ AllKept rows' ∥₁ × ∥ Reached n rows' made' ∥₁
  put_ghost keeps kept reached = (
    ap length put ∙ (length-set rows s (Some row) ∙ room),
    ∥∥₁_map {B = AllKept rows'} kept (λ k. subst AllKept (sym put) (put_kept rows s row (omega arith) (keeps k) k)),
    ∥∥₁_map {B = Reached n rows' made'} reached (reached_more n made made' rows rows' c r lawful put_does),
  )

-- a row with a new claim keeps what the old one kept
pub claimed_keeps : (rows : List (Option Row)) (s k : ℕ) (old row : Row) → get_or rows s None ≡ Some old → is_some old.pending ≡ true → row ≡ claimed old k → AllKept rows → Keeps row
claimed_keeps rows s k old row e p q kept = let h = kept s old e in subst Keeps (sym q) (record { base = h.base; force = h.force; pending = h.pending; claim = claimable old.pending p })
  where
    claimable : (o : Option Procedure) → is_some o ≡ true → Claimable o (Some k)
    claimable None z = let b : ◌≡◌ {A = ℕ} 0 1 = cc in let c : ⊥ = omega arith in absurd c
    claimable (Some v) z = tt

-- the slot of a filled row, in the account
pub slot_of : (n made : ℕ) (rows : List (Option Row)) (s : ℕ) (r : Row) → get_or rows s None ≡ Some r → (account n rows made).slots s ≡ row_account (Some r)
slot_of n made rows s r e = ap row_account e

pub claimed_means : (old row : Row) (k : ℕ) → row ≡ claimed old k → row_account (Some row) ≡ Some (with_claim (filled old) k)
claimed_means old row k e = ap (λ r. row_account (Some r)) e
