use Rattle.std.proofs.Math.Logic.{∥∥₁_map}
use Rattle.std.proofs.lemmas.Str.{IsUtf8-from_ascii, IsUtf8-had}
use Rattle.explanations.proofs.Placing.{term_ascii}
use Rattle.explanations.proofs.summary.push_procedure.Goals as goal

pub unreachable-requires : goal.unreachable-requires
unreachable-requires g c =
    let version = c.args.version.now in
    let m = g.S.System.meaning version.procedure in
    c.in_default.ensures.cases.0 (IsUtf8-had c.in-Term.text.now (∥∥₁_map version.denoted (λ d. IsUtf8-from_ascii c.in-Term.text.now (term_ascii version.given m c.in-Term.is d))))
