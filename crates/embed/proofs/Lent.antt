-- The lines of a comparison, within the numbers that were lent.
use Rattle.std.proofs.Common.{◌≡◌, ℕ, ◌*◌, ◌/◌, ◌≤◌, min, List, length, replicate, refl, arith}
use lib.ListN.{length-replicate}
use Rattle.std.proofs.lemmas.List.{length-take-le}
use Rattle.lts.specs.Meaning.{Meaning}
use Rattle.formulas.specs.declared.line.Line.{Line}
use Rattle.formulas.specs.declared.line.Line.TheVariants.{True}
use Rattle.comparison.specs.Compared.{Reported}
use Rattle.comparison.specs.declared.report.Report.{Report}
use Rattle.comparison.specs.declared.report.Verdict.{Verdict}
use Rattle.comparison.specs.declared.report.Verdict.TheVariants.{Same, Different}
use Rattle.comparison.proofs.Bounds.{lines_within}
use Rattle.embed.specs.Comparisons.{line_count, room}

pub count_within : (p q : Meaning) (lines : List Line) (classes : List ℕ) (r : Report) (lines' : List Line) (classes' : List ℕ) → Reported p q lines classes r lines' classes' → line_count r.verdict ≤ length lines
count_within p q lines classes r lines' classes' h = go r.verdict refl
  where
    go : (v : Verdict) → r.verdict ≡ v → line_count v ≤ length lines
    go Same e = omega arith
    go (Different n i d) e = lines_within p q lines classes r lines' classes' h n i d e

pub room_within : (ns : List ℕ) → 3 * length (room ns) ≤ length ns
room_within ns = let long = length-take-le (min (length ns / 3) 1021) (replicate 1021 True) (rw length-replicate (omega arith)) in omega arith
