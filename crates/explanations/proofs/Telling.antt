-- What a comparison answers can be told.
use Rattle.std.proofs.Common.{ℕ, ◌+◌, ◌-◌, ◌*◌, ◌≤◌, List, length, get_or, arith}
use Rattle.std.proofs.lemmas.Bool.{ltb-true}
use Rattle.lts.specs.Meaning.{Meaning}
use Rattle.lts.specs.Joined.{joined}
use Rattle.theory.specs.Bisimulation.{Related}
use Rattle.theory.specs.Rounds.{all_of}
use Rattle.theory.proofs.Counting.{number_below}
use Rattle.theory.proofs.Numberings.{count_few}
use Rattle.formulas.specs.declared.line.Line.{Line}
use Rattle.comparison.specs.declared.report.Report.{Report}
use Rattle.comparison.specs.declared.report.Verdict.{Verdict}
use Rattle.comparison.specs.declared.report.Verdict.TheVariants.{Same, Different}
use Rattle.comparison.specs.Compared.{Judged, Reported}
use Rattle.explanations.specs.Explanations.{Tellable}

tellable : (p q : Meaning) (K n : ℕ) (lines lines' : List Line) (v : Verdict) → n ≤ 128 → p.count ≤ n → K ≤ n + n → 4 * (n + n) - 3 ≤ length lines' → length lines' ≤ 1021 → Judged p q K lines v lines' → Tellable p v lines'
tellable p q K n lines lines' Same low small few room most h = tt
tellable p q K n lines lines' (Different k i d) low small few room most h =
    let last = h.most in
    record { small = omega arith; few = omega arith; room = omega arith; well = h.well; named = h.named; holds = h.tells.0 }

-- of two procedures with at most n states each, where the lines have room for both
pub reported_tellable : (p q : Meaning) (n : ℕ) (lines : List Line) (classes : List ℕ) (r : Report) (lines' : List Line) (classes' : List ℕ) → n ≤ 128 → p.count ≤ n → q.count ≤ n → 4 * (n + n) - 3 ≤ length lines' → length lines' ≤ 1021 → Reported p q lines classes r lines' classes' → Tellable p r.verdict lines'
reported_tellable p q n lines classes r lines' classes' low small small' room most h =
    let m = joined p q in
    let few = count_few (all_of m) m.count (λ s e. ltb-true s m.count e) (Related m m) r.classes (λ s. get_or classes' s 0) h.numbered in
    let all = number_below m.count m.count (omega arith) in
    tellable p q r.classes n lines lines' r.verdict low small (omega arith) room most h.verdict
