-- How the action at a place is looked for.
use Rattle.std.proofs.Common.{◌≡◌, ℕ, zero, suc, ◌+◌, ◌-◌, ◌≤◌, Bool, true, false, cond, List, [], ◌∷◌, Some, None, Option, MatchOption, is_some, sym, refl, ap, arith}
use Rattle.std.specs.List.{slice_get, enumerate_from, filter_map, cons_option}
use Rattle.terms.specs.Grammar.{Letter}
use Rattle.terms.specs.Scan.{is_action}
use Rattle.terms.specs.Assembly.{action_of}
use Rattle.terms.proofs.Letters.{action_letter, letter_action}
use Rattle.listings.specs.Offsets.{action_offsets, from_one}

-- whether an action has the character
pub has_action : (c : ℕ) (o : Option ℕ) → MatchOption o ((a : ℕ) → Letter c a → ⊥) (λ a. Letter c a) → is_some o ≡ is_action c
has_action c None h = go (is_action c) refl
  where
    go : (b : Bool) → is_action c ≡ b → false ≡ b
    go true e = absurd (h (action_of c) (action_letter c e))
    go false e = refl
has_action c (Some a) h = sym (letter_action h).0

-- the place, if an action stands there
abbrev pub action_place : ℕ × ℕ → Option ℕ
action_place p = cond (is_action p.1) (Some p.0) None

-- the offsets are the places where an action stands
pub offsets_filtered : (at : ℕ) (text : List ℕ) → filter_map action_place (enumerate_from at text) ≡ action_offsets at text
offsets_filtered at [] = refl
offsets_filtered at (c ∷ text) = go (is_action c) (offsets_filtered (at + 1) text)
  where
    go : (b : Bool) → filter_map action_place (enumerate_from (at + 1) text) ≡ action_offsets (at + 1) text → cons_option (cond b (Some at) None) (filter_map action_place (enumerate_from (at + 1) text)) ≡ cond b (at ∷ action_offsets (at + 1) text) (action_offsets (at + 1) text)
    go true e = ap (λ xs. at ∷ xs) e
    go false e = e

-- the first, second, .. of a list, by its index
pub from_one_none : (place : ℕ) (xs : List ℕ) → (1 ≤ place → ⊥) → None ≡ from_one place xs
from_one_none zero xs h = refl
from_one_none (suc i) xs h = absurd (h (omega arith))

pub from_one_some : (place i : ℕ) (xs : List ℕ) → 1 ≤ place → i ≡ place - 1 → slice_get xs i ≡ from_one place xs
from_one_some zero i xs h e = let b : ⊥ = omega arith in absurd b
from_one_some (suc k) i xs h e = let n : i ≡ k = omega arith in ap (slice_get xs) n
