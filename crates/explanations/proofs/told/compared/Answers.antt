use Rattle.std.proofs.Common.{arith}
use Rattle.explanations.proofs.Telling.{reported_tellable}
use Rattle.explanations.proofs.told.compared.Goals as goal

pub whole_as_slice-compare-2 : goal.whole_as_slice-compare-2
whole_as_slice-compare-2 g c = omega (arith, g.S.Source.bounded, c.requires.classes)

pub shared_whole_as_slice-push_summary : goal.shared_whole_as_slice-push_summary
shared_whole_as_slice-push_summary g c = omega (arith, g.S.Source.bounded, c.requires.classes)

pub push_outcome-requires : goal.push_outcome-requires
push_outcome-requires g c =
    let p = c.args.left.now.procedure in
    let q = c.args.right.now.procedure in
    reported_tellable (g.S.System.meaning p) (g.S.System.meaning q) _ _ _ c.in-Ok.report c.compare.new.lines c.compare.new.classes g.S.Source.bounded (g.met.S.Source.fits p) (g.met.S.Source.fits q) (omega (arith, c.compare.auto.lines, c.requires.lines)) (omega (arith, c.compare.auto.lines, c.requires.few)) c.in-Ok.ensures
