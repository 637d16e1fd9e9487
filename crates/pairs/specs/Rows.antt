-- What a row of the table says: two procedures, the verdict on their starts, the number of classes and of rounds.
use Rattle.std.specs.Prelude.{◌≡◌, ℕ, ◌<◌, None, codes}
use Prim.Native.String.{String}
use Rattle.lts.specs.Meaning.{Meaning}
use Rattle.lts.specs.Joined.{joined}
use Rattle.theory.specs.Bisimulation.{Related}
use Rattle.theory.specs.Rounds.{Agree, all_of, Rounds}
use Rattle.theory.specs.Classes.{Classes}
use Rattle.terms.specs.Syntax.{Tree}
use Rattle.terms.specs.Grammar.{Spells, sum}
use Rattle.terms.specs.Scan.{first_refusal}
use Rattle.terms.specs.Graph.{graph}

-- A side of a pair: a term's text, or a procedure given as it is.
pub data Side : Type 0 where
  term : String → Side
  given : Meaning → Side

-- What a side means. A text that is not refused means the graph of the term that it spells.
pub data Means : Side → Meaning → Type 0 where
  spelled : {text : String} {t : Tree} → first_refusal (codes text) ≡ None → Spells sum 0 (codes text) t → Means (term text) (graph t)
  itself : {p : Meaning} → Means (given p) p

-- The starts are the same, or they are different and disagree at this round first.
pub data Verdict : Type 0 where
  same : Verdict
  different : ℕ → Verdict

-- the verdict on the starts of p and q, which stand side by side as 0 and p.count
abbrev pub Told : Meaning → Meaning → Verdict → Type 0
Told p q same = Related p q 0 0
Told p q (different d) = (Related p q 0 0 → ⊥) × ((k : ℕ) → k < d → Agree (joined p q) k 0 p.count) × (Agree (joined p q) d 0 p.count → ⊥)

-- How p and q compare: the verdict; side by side their states have K classes, and r is the least stable round.
pub record Compares (p q : Meaning) (verdict : Verdict) (K r : ℕ) : Type 0 where
  pub told : Told p q verdict
  pub classes : (n : ℕ → ℕ) × Classes (joined p q) (all_of (joined p q)) K n
  pub rounds : Rounds (joined p q) (all_of (joined p q)) r

-- The two sides mean procedures that compare so.
pub record Row (left right : Side) (verdict : Verdict) (K r : ℕ) : Type 0 where
  pub p : Meaning
  pub q : Meaning
  pub left_means : Means left p
  pub right_means : Means right q
  pub compared : Compares p q verdict K r
