use Rattle.std.proofs.Common.{◌*◌, ap, arith}
use Rattle.std.specs.Prelude.{length}
use Rattle.explanations.proofs.Following.{not_refused_at_start}
use Rattle.explanations.proofs.way.way.Goals as goal

pub unreachable-requires : goal.unreachable-requires
unreachable-requires g c =
    let formula = c.args.formula in
    let m = g.S.System.meaning c.args.source.now in
    let work = c.as_mut_slice.result.now in
    let marks = c.as_mut_slice.ensures.len in
    let places = c.in_ok-work.ensures.len in
    let same = ap (λ n. length formula.lines.now * n) c.states.ensures in
    not_refused_at_start m (g.met.S.System.lawful c.args.source.now) formula.lines.now formula.line (length work) c.in_default.field-0 formula.well c.requires.few formula.inside (omega (arith, marks, places, same)) c.in_default.ensures.0
