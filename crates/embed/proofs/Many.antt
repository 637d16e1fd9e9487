-- Lines that are too many, whatever they are.
use Rattle.std.proofs.Common.{◌≡◌, ℕ, ◌/◌, ◌<◌, true, ◌||◌, eqb, ltb, List, length, Some, arith}
use Rattle.std.proofs.lemmas.Bool.{lt-ltb, or_right}
use Rattle.formulas.specs.Faults.{first_fault}
use Rattle.formulas.specs.declared.fault.EvaluationFault.TheVariants.{Count}
use Rattle.embed.specs.Numbers.{lines_of}
use Rattle.embed.proofs.Reading.{lines_length}

pub too_many : (ns : List ℕ) (i s count room : ℕ) → 1024 < length ns / 3 → first_fault (lines_of ns) i s count room ≡ Some Count
too_many ns i s count room l =
    let long = lines_length ns in
    let n = length (lines_of ns) in
    let e : (eqb n 0 || ltb 1024 n) ≡ true = or_right (eqb n 0) (ltb 1024 n) (lt-ltb 1024 n (omega arith)) in
    rw e
