-- What a formula that is a line is made of.
use Rattle.std.specs.Prelude.{◌≡◌, ℕ, ◌<◌, ◌≤◌, Some, None, Option}
use Rattle.theory.specs.Formulas.{Formula, T, E, N, A, D}
use Rattle.formulas.specs.Lines.{formula}
use Rattle.explanations.specs.declared.formula.FormulaLine.{FormulaLine}
use Rattle.explanations.specs.declared.formula.Parts.{Parts}
use Rattle.explanations.specs.declared.formula.Parts.TheVariants.{True, End, Not, Both, Step}
use Rattle.explanations.specs.Ways.{lead}

-- the formula that a line is
abbrev pub shown : FormulaLine → Formula
shown f = formula f.lines.now f.line

-- g is an earlier one of the same lines
abbrev pub Below : FormulaLine → FormulaLine → Type 0
Below f g = (g.line < f.line) × (g.lines.now ≡ f.lines.now)

abbrev pub MadeOf : FormulaLine → Parts → Type 0
MadeOf f True = shown f ≡ T
MadeOf f End = shown f ≡ E
MadeOf f (Not g) = Below f g × (shown f ≡ N (shown g))
MadeOf f (Both g h) = Below f g × Below f h × (shown f ≡ A (shown g) (shown h))
MadeOf f (Step a g) = (a ≤ 63) × Below f g × (shown f ≡ D a (shown g))

-- what a formula asks for first: an action, and the formula that has to hold behind it
abbrev pub Leads : FormulaLine → Option (ℕ × FormulaLine) → Type 0
Leads f None = lead (shown f) ≡ None
Leads f (Some x) = Below f x.1 × (lead (shown f) ≡ Some (x.0, shown x.1))
