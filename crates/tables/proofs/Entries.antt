-- The entries of a file, one after another.
use Rattle.std.proofs.Common.{◌≡◌, ℕ, zero, suc, ◌+◌, ◌-◌, ◌<◌, ◌≤◌, List, [], ◌∷◌, length, refl, ap, ◌∙◌, ⊎_elim, arith}
use Rattle.std.proofs.lemmas.Bool.{le-leb, lt-leb, cases_lt}
use Rattle.tables.specs.Records.{Entry, entry_at, behind, entries_from, entries}

module _ (file : List ℕ) where
  -- as many as there are bytes left are enough
  enough : (n m at : ℕ) → length file ≤ at + n → length file ≤ at + m → entries_from file n at ≡ entries_from file m at
  enough zero zero at p q = refl
  enough zero (suc m) at p q = let l : length file ≤ at = omega arith in rw (le-leb (length file) at l)
  enough (suc n) zero at p q = let l : length file ≤ at = omega arith in rw (le-leb (length file) at l)
  enough (suc n) (suc m) at p q = ⊎_elim (inside (enough n m (behind file at) (omega arith) (omega arith))) outside (cases_lt at (length file))
    where
      inside : entries_from file n (behind file at) ≡ entries_from file m (behind file at) → at < length file → entries_from file (suc n) at ≡ entries_from file (suc m) at
      inside e l = rw (lt-leb (length file) at l) (ap (λ es. entry_at file at ∷ es) e)

      outside : length file ≤ at → entries_from file (suc n) at ≡ entries_from file (suc m) at
      outside l = rw (le-leb (length file) at l)

  -- what is left from an offset on
  abbrev pub left : ℕ → List Entry
  left at = entries_from file (length file - at) at

  pub left_all : left 0 ≡ entries file
  left_all = enough (length file - 0) (length file) 0 (omega arith) (omega arith)

  pub left_more : (at : ℕ) → at < length file → left at ≡ entry_at file at ∷ left (behind file at)
  left_more at l =
      enough (length file - at) (suc (length file)) at (omega arith) (omega arith) ∙ rw (lt-leb (length file) at l) (ap (λ es. entry_at file at ∷ es) (enough (length file) (length file - behind file at) (behind file at) (omega arith) (omega arith)))

  pub left_none : (at : ℕ) → length file ≤ at → left at ≡ []
  left_none at l = enough (length file - at) 0 at (omega arith) (omega arith)
