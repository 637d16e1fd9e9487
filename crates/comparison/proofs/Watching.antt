-- What a round tells of the starts, and what lines that go on keep of it.
use Rattle.std.proofs.Common.{◌≡◌, ℕ, ◌+◌, ◌<◌, ◌≤◌, Bool, true, false, cond, eqb, List, Some, None, Option, sym, refl, subst, arith, below_more}
use Rattle.std.proofs.lemmas.Bool.{eqb-true, eqb-false, lt-ltb}
use Rattle.lts.specs.Meaning.{Meaning}
use Rattle.theory.specs.Formulas.{Formula, Tells, depth}
use Rattle.formulas.specs.declared.line.Line.{Line}
use Rattle.comparison.specs.Reach.{numbers}
use Rattle.comparison.specs.Marks.{Kept}
use Rattle.comparison.specs.Found.{watched, Found}
use Rattle.comparison.specs.Standing.{Standing}
use Rattle.comparison.specs.declared.partition.Partition.{Partition}
use Rattle.comparison.specs.declared.starts.Apart.{Apart}

-- one round more
pub found_more : (m : Meaning) (q : ℕ) (lines : List Line) (k : ℕ) (p : Partition) (told : Option Apart) → 0 < m.count → q < m.count → Standing m k lines p → Found m q lines k told → Found m q lines (k + 1) (watched told p k q)
found_more m q lines k p (Some x) some inside h found = found
found_more m q lines k p None some inside h found = by (eqb (numbers p.class 0) (numbers p.class q)) refl
  where
    by : (b : Bool) → eqb (numbers p.class 0) (numbers p.class q) ≡ b → Found m q lines (k + 1) (cond b None (Some (record { line = numbers p.marks (numbers p.class 0); depth = k })))
    by true e =
        below_more _ k found ((h.based.numbering.equal 0 q (lt-ltb 0 m.count some) (lt-ltb q m.count inside)).0 (eqb-true (numbers p.class 0) (numbers p.class q) e))
    by false e =
        let low = h.based.numbering.below 0 (lt-ltb 0 m.count some) in
        let mark = h.based.marked (numbers p.class 0) low in
        record { placed = mark.placed; tells = ((mark.exact 0 some).1 refl, λ x. eqb-false (numbers p.class 0) (numbers p.class q) e (sym ((mark.exact q inside).0 x))); shallow = mark.shallow; agreed = found }

-- lines that go on
pub found_kept : (m : Meaning) (q : ℕ) (lines lines' : List Line) (k : ℕ) (told : Option Apart) → Kept lines lines' → Found m q lines k told → Found m q lines' k told
found_kept m q lines lines' k None kept found = found
found_kept m q lines lines' k (Some x) kept found =
    let e = sym (kept.same x.line found.placed) in
    let a = kept.longer in
    let b = found.placed in
    record { placed = omega arith; tells = subst (Tells m m 0 q) e found.tells; shallow = subst (λ (f : Formula). depth f ≤ x.depth) e found.shallow; agreed = found.agreed }
