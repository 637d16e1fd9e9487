-- The rows of the table from what the checker computes.
use Rattle.std.proofs.Common.{◌≡◌, ℕ, true, [], Some, None, codes, Option, refl}
use Prim.Native.String.{String}
use Rattle.lts.specs.Meaning.{Meaning}
use Rattle.terms.specs.Syntax.{Tree}
use Rattle.terms.specs.Scan.{first_refusal}
use Rattle.terms.specs.Assembly.{past, start, plus, feeds}
use Rattle.terms.specs.Graph.{graph}
use Rattle.terms.proofs.Feeding.{at}
use Rattle.terms.proofs.Spelled.{text_spelled}
use Rattle.pairs.specs.Rows.{Side, term, Means, spelled, itself, Verdict, Row}
use Rattle.pairs.specs.Pairs.{TenPairs}
use Rattle.pairs.proofs.Testing.{compares}
use Rattle.pairs.proofs.Comparing.{compared}

-- a text that is read to its end, with no bracket open, behind a sum and a product
read : {text : String} {s : Option Tree} {x : Tree} {n : ℕ} → first_refusal (codes text) ≡ None → feeds start (codes text) ≡ Some (at [] s (past x) n) → Means (term text) (graph (plus s x))
read {text} {s} {x} {n} fine e = spelled fine (text_spelled s x n (codes text) e)

row : {left right : Side} {p q : Meaning} {verdict : Verdict} {K r : ℕ} → Means left p → Means right q → compares p q verdict K r ≡ true → Row left right verdict K r
row {p = p} {q} {verdict} {K} {r} x y e = record { p = p; q = q; left_means = x; right_means = y; compared = compared p q verdict K r e }

pub ten_pairs : TenPairs
ten_pairs = (
  row (read refl refl) (read refl refl) refl,
  row (read refl refl) (read refl refl) refl,
  row (read refl refl) (read refl refl) refl,
  row (read refl refl) (read refl refl) refl,
  row (read refl refl) (read refl refl) refl,
  row (read refl refl) (read refl refl) refl,
  row (read refl refl) (read refl refl) refl,
  row (read refl refl) (read refl refl) refl,
  row itself itself refl,
  row itself itself refl,
)
