-- Rows that a clearance is for.
use Rattle.std.proofs.Common.{◌≡◌, ◌⊎◌, ℕ, List, length, get_or, set, Some, None, Ok, Err, Option, Result, sym, refl, ap, ◌∙◌, subst, ⊎_elim}
use mathlib.Core.Logic.{∥∥₁_elim}
use Rattle.lts.specs.Layout.{Procedure}
use Rattle.accounts.specs.Account.{with_slot}
use Rattle.accounts.specs.Calls.{accepted, refused, Does, refuses, releases, withdraws}
use Rattle.shelves.specs.Faults.{number_of}
use Rattle.shelves.specs.Moves.{account_of, Moved, answer, forced, settled, Cleared, Spent, release_by, withdraw_by}
use Rattle.shelves.specs.Standing.{account, filled, stored_if, BoundIf, Claimable, AllKept, Keeps, Reached}
use Rattle.shelves.specs.declared.clearance.Clearance.{Clearance}
use Rattle.shelves.specs.declared.fault.ShelfFault.{ShelfFault}
use Rattle.shelves.specs.declared.row.Row.{Row}
use Rattle.shelves.specs.declared.shelf.Shelf.{Shelf}
use Rattle.shelves.proofs.Moving.{moves, put_account, put_ghost, slot_of}

-- a claim stands only while a procedure is pending
pub never_claimed : {X : Type 0} (rows : List (Option Row)) (s : ℕ) (r : Row) (k : ℕ) → ∥ AllKept rows ∥₁ → get_or rows s None ≡ Some r → r.latest ≡ Some k → r.pending ≡ None → X
never_claimed rows s r k kept e l p = let b : ⊥ = ∥∥₁_elim kept (λ u v. absurd u) (λ all. (let c = (all s r e).claim in subst (λ o. Claimable o (Some k)) p (subst (λ o. Claimable r.pending o) l c))) in absurd b

force_keeps : (rows : List (Option Row)) (s : ℕ) (r : Row) (p : Procedure) → get_or rows s None ≡ Some r → r.pending ≡ Some p → AllKept rows → Keeps (settled (forced r p))
force_keeps rows s r p e q all = let h = all s r e in record { base = h.base; force = subst (BoundIf r.baseline) q h.pending; pending = tt; claim = tt }

drop_keeps : (rows : List (Option Row)) (s : ℕ) (r : Row) → get_or rows s None ≡ Some r → AllKept rows → Keeps (settled r)
drop_keeps rows s r e all = let h = all s r e in record { base = h.base; force = h.force; pending = tt; claim = tt }

-- a row of a clearance that was settled, put into the table
module _ (x : Shelf) (c : Clearance) (r : Row) (p : Procedure) (cleared : Cleared x c (Some (r, p))) where
  release_does : Does (account_of x) (release_by c) accepted (with_slot (account_of x) c.numbers.slot (filled (settled (forced r p))))
  release_does = releases (rw cleared.0) (slot_of x.number x.claims x.slots.rows c.numbers.slot r cleared.2) (ap stored_if cleared.3)

  withdraw_does : Does (account_of x) (withdraw_by c) accepted (with_slot (account_of x) c.numbers.slot (filled (settled r)))
  withdraw_does = withdraws (rw cleared.0) (slot_of x.number x.claims x.slots.rows c.numbers.slot r cleared.2)

  module _ (r' : Row) (rows' : List (Option Row)) (put : rows' ≡ set x.slots.rows c.numbers.slot (Some (settled r'))) where
    pub spent_account : account x.number rows' x.claims ≡ with_slot (account_of x) c.numbers.slot (filled (settled r'))
    spent_account = ap (λ zs. account x.number zs x.claims) put ∙ put_account x.number x.claims x.slots.rows c.numbers.slot (settled r') (filled (settled r')) cleared.1 x.room refl

    pub spent_ghost : (r' ≡ forced r p) ⊎ (r' ≡ r) → (length rows' ≡ 8) × ∥ AllKept rows' ∥₁ × ∥ Reached x.number rows' x.claims ∥₁
    spent_ghost = ⊎_elim in_force dropped
      where
        put_as : (z : Row) → r' ≡ z → rows' ≡ set x.slots.rows c.numbers.slot (Some (settled z))
        put_as z e = put ∙ ap (λ y. set x.slots.rows c.numbers.slot (Some (settled y))) e

        in_force : r' ≡ forced r p → (length rows' ≡ 8) × ∥ AllKept rows' ∥₁ × ∥ Reached x.number rows' x.claims ∥₁
        in_force e = put_ghost x.number x.claims x.claims x.slots.rows rows' c.numbers.slot (settled (forced r p)) (filled (settled (forced r p))) (release_by c) accepted cleared.1 x.room (put_as (forced r p) e) refl tt release_does (force_keeps x.slots.rows c.numbers.slot r p cleared.2 cleared.3) x.kept x.reached

        dropped : r' ≡ r → (length rows' ≡ 8) × ∥ AllKept rows' ∥₁ × ∥ Reached x.number rows' x.claims ∥₁
        dropped e = put_ghost x.number x.claims x.claims x.slots.rows rows' c.numbers.slot (settled r) (filled (settled r)) (withdraw_by c) accepted cleared.1 x.room (put_as r e) refl tt withdraw_does (drop_keeps x.slots.rows c.numbers.slot r cleared.2) x.kept x.reached

-- what a release and a withdrawal promise, by what settles the row
module _ (post : Row → Procedure → Row → Type 0) (x x' : Shelf) (c : Clearance) where
  pub release_moved : ((r r' : Row) (p : Procedure) → post r p r' → r' ≡ forced r p) → (res : Result (Unit {0}) ShelfFault) → Spent post x c res x' → Moved (account_of x) (release_by c) (answer res) (account_of x')
  release_moved forces (Ok done) h = moves {c = release_by c} tt (subst (Does (account_of x) (release_by c) accepted) (sym (rw (forces h.0.0 h.1 h.0.1 h.3) at h.4)) (release_does x c h.0.0 h.0.1 h.2))
  release_moved forces (Err f) h = moves {c = release_by c} tt (subst (λ a. Does (account_of x) (release_by c) (refused (number_of f)) a) (sym h.2) (refuses (rw (h.0, h.1))))

  pub withdraw_moved : ((r r' : Row) (p : Procedure) → post r p r' → r' ≡ r) → (res : Result (Unit {0}) ShelfFault) → Spent post x c res x' → Moved (account_of x) (withdraw_by c) (answer res) (account_of x')
  withdraw_moved drops (Ok done) h = moves {c = withdraw_by c} tt (subst (Does (account_of x) (withdraw_by c) accepted) (sym (rw (drops h.0.0 h.1 h.0.1 h.3) at h.4)) (withdraw_does x c h.0.0 h.0.1 h.2))
  withdraw_moved drops (Err f) h = moves {c = withdraw_by c} tt (subst (λ a. Does (account_of x) (withdraw_by c) (refused (number_of f)) a) (sym h.2) (refuses (rw (h.0, h.1))))
