use Rattle.std.proofs.Common.{◌≡◌, ℕ, ap, ◌∙◌, arith}
use Rattle.std.specs.List.{slice_get}
use Rattle.lts.specs.Meaning.{Meaning}
use Rattle.lts.specs.Layout.{stored}
use Rattle.terms.specs.Graph.{graph}
use Rattle.terms.specs.Terms.{tree_of}
use Rattle.terms.proofs.Asking.{told}
use Rattle.terms.proofs.term.source.TermSystem.step.Goals as goal

pub returns : goal.returns
returns c =
    let laid = ap stored c.stored.ensures ∙ told c.args.self.now in
    let listed : (k : ℕ) → slice_get ((stored c.stored.result.of.now).steps c.args.s) k ≡ slice_get ((graph (tree_of c.args.self.now)).steps c.args.s) k = λ k. ap (λ (m : Meaning). slice_get (m.steps c.args.s) k) laid in
    grind (arith, listed, c.step.ensures)
