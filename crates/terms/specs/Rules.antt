-- The rules of the calculus: which step a term can take, and what remains of it then.
use Rattle.std.specs.Prelude.{ℕ}
use Rattle.terms.specs.Syntax.{Tree, leaf, choice, sequence, Rest, done, left}

-- A term of the calculus: an action, a choice or a sequence.
pub data Process : Type 0 where
  act : ℕ → Process
  ◌⊕◌ : Process → Process → Process
  ◌⊙◌ : Process → Process → Process

infixl 60 ◌⊕◌
infixl 70 ◌⊙◌
-- `Derives x a r`: x takes action a, and r remains.
pub data Derives : Process → ℕ → Rest Process → Type 0 where
  act_done : {a : ℕ} → Derives (act a) a done
  choice_left : {x y : Process} {a : ℕ} {r : Rest Process} → Derives x a r → Derives (x ⊕ y) a r
  choice_right : {x y : Process} {a : ℕ} {r : Rest Process} → Derives y a r → Derives (x ⊕ y) a r
  sequence_done : {x y : Process} {a : ℕ} → Derives x a done → Derives (x ⊙ y) a (left y)
  sequence_left : {x y x' : Process} {a : ℕ} → Derives x a (left x') → Derives (x ⊙ y) a (left (x' ⊙ y))

-- a tree without the places of its actions
abbrev pub plain : Tree → Process
plain (leaf a i) = act a
plain (choice x y) = plain x ⊕ plain y
plain (sequence x y) = plain x ⊙ plain y

abbrev pub plain_rest : Rest Tree → Rest Process
plain_rest done = done
plain_rest (left x) = left (plain x)
