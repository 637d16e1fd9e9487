use Rattle.std.proofs.Common.{length, ap, ◌∙◌, arith}
use Rattle.lts.specs.Meaning.{Meaning}
use Rattle.lts.specs.Layout.{stored}
use Rattle.terms.proofs.Asking.{told}
use Rattle.terms.proofs.term.source.TermSystem.step_count.Goals as goal

pub returns : goal.returns
returns c =
    let laid = ap stored c.stored.ensures ∙ told c.args.self.now in
    omega (arith, ap (λ (m : Meaning). length (m.steps c.args.s)) laid)
