-- What a report's numbers are at most.
use Rattle.std.proofs.Common.{◌≡◌, ℕ, ◌+◌, ◌-◌, ◌*◌, ◌≤◌, List, length, get_or, subst, inl, ⊎_elim, arith}
use Rattle.std.proofs.lemmas.Bool.{ltb-true, cases_lt}
use Rattle.lts.specs.Meaning.{Meaning}
use Rattle.lts.specs.Joined.{joined}
use Rattle.theory.specs.Bisimulation.{Related}
use Rattle.theory.specs.Rounds.{all_of}
use Rattle.theory.proofs.Counting.{number_below}
use Rattle.theory.proofs.Numberings.{count_few}
use Rattle.formulas.specs.declared.line.Line.{Line}
use Rattle.comparison.specs.Compared.{Judged, Reported}
use Rattle.comparison.specs.declared.report.Report.{Report}
use Rattle.comparison.specs.declared.report.Verdict.TheVariants.{Different}

module _ (p q : Meaning) (lines : List Line) (classes : List ℕ) (r : Report) (lines' : List Line) (classes' : List ℕ) (h : Reported p q lines classes r lines' classes') where
  -- no more classes than states
  pub classes_within : r.classes ≤ p.count + q.count
  classes_within =
      let m = joined p q in
      let few = count_few (all_of m) m.count (λ s e. ltb-true s m.count e) (Related m m) r.classes (λ s. get_or classes' s 0) h.numbered in
      let all = number_below m.count m.count (omega arith) in
      omega arith

  -- the lines that a verdict names are within those that were lent
  pub lines_within : (n i d : ℕ) → r.verdict ≡ Different n i d → n ≤ length lines
  lines_within n i d e =
      let told = subst (λ v. Judged p q r.classes lines v lines') e h.verdict in
      let most = told.most in
      let few = classes_within in
      ⊎_elim (λ l. absurd (h.room (inl l))) (λ l. omega arith) (cases_lt (length lines) (4 * (p.count + q.count) - 3))
