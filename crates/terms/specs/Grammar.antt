-- What a text spells: sequence binds tighter than choice, both group to the left.
use Rattle.std.specs.Prelude.{ℕ, suc, ◌+◌, ◌-◌, ◌≤◌, List, [], ◌∷◌, ◌++◌}
use Rattle.terms.specs.Syntax.{Tree, leaf, choice, sequence, size}

-- c is the character of action a: a to z, A to Z, 0 to 9 in this order
pub data Letter : ℕ → ℕ → Type 0 where
  small : {c : ℕ} → 97 ≤ c → c ≤ 122 → Letter c (c - 97)
  capital : {c : ℕ} → 65 ≤ c → c ≤ 90 → Letter c (c - 65 + 26)
  digit : {c : ℕ} → 48 ≤ c → c ≤ 57 → Letter c (c - 48 + 52)

pub data Level : Type 0 where
  sum : Level
  product : Level
  operand : Level

-- A text that stands behind i actions spells a term. The characters are
-- '(' 40, ')' 41, '+' 43 and '.' 46.
pub data Spells : Level → ℕ → List ℕ → Tree → Type 0 where
  action : {i c a : ℕ} → Letter c a → Spells operand i (c ∷ []) (leaf a (suc i))
  bracket : {i : ℕ} {xs : List ℕ} {t : Tree} → Spells sum i xs t → Spells operand i (40 ∷ (xs ++ 41 ∷ [])) t
  one_operand : {i : ℕ} {xs : List ℕ} {t : Tree} → Spells operand i xs t → Spells product i xs t
  more_operands : {i : ℕ} {xs ys : List ℕ} {t u : Tree} → Spells product i xs t → Spells operand (i + size t) ys u → Spells product i (xs ++ 46 ∷ ys) (sequence t u)
  one_product : {i : ℕ} {xs : List ℕ} {t : Tree} → Spells product i xs t → Spells sum i xs t
  more_products : {i : ℕ} {xs ys : List ℕ} {t u : Tree} → Spells sum i xs t → Spells product (i + size t) ys u → Spells sum i (xs ++ 43 ∷ ys) (choice t u)
