use Rattle.std.proofs.Common.{ℕ, not, ◌∙◌, rules}
use borrow.Author.Tests.{tests}
use Rattle.std.proofs.lemmas.Iterator.{YieldsList-from_slice}
use Rattle.std.proofs.lemmas.Iterator.Adapters.{position_from-zero}
use Rattle.std.proofs.lemmas.Iterator.Consumers.{YieldsList-from_enumerate}
use Rattle.std.proofs.lemmas.Iterator.Search.{position_from_yields_List}
use Rattle.std.specs.List.{enumerate_from}
use Rattle.formulas.specs.Lines.{fits}
use Rattle.formulas.specs.declared.line.Line.{Line}
use Rattle.formulas.proofs.Misfits.{misfit_numbered}
use Rattle.formulas.proofs.admission.first_misfit.Goals as goal

pub returns : goal.returns
returns c =
    let misfit = λ (p : ℕ × Line). not (fits p.0 p.1) in
    let lines = c.args.lines.now in
    position_from_yields_List misfit _ _ c.position.result c.position.ensures.ran (YieldsList-from_enumerate (YieldsList-from_slice lines cc) cc) (λ x b q k. search (rules, tests)) ∙ position_from-zero misfit (enumerate_from 0 lines) ∙ misfit_numbered 0 lines
