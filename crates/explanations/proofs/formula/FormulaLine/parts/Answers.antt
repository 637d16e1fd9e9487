use Rattle.std.proofs.Common.{refl}
use Rattle.explanations.proofs.Spelling.{is_true, is_end, is_not, is_both, is_step}
use Rattle.explanations.proofs.formula.FormulaLine.parts.Goals as goal

pub returns-in-True : goal.returns-in-True
returns-in-True c = let f = c.args.self in is_true f.lines.now f.well f.line f.inside c.in-True.is

pub returns-in-End : goal.returns-in-End
returns-in-End c = let f = c.args.self in is_end f.lines.now f.well f.line f.inside c.in-End.is

pub returns-in-Not : goal.returns-in-Not
returns-in-Not c =
    let f = c.args.self in
    let n = is_not f.lines.now f.well f.line f.inside c.in-Not.i c.in-Not.is in
    ((n.0, refl), n.1)

pub returns-in-Both : goal.returns-in-Both
returns-in-Both c =
    let f = c.args.self in
    let b = is_both f.lines.now f.well f.line f.inside c.in-Both.i c.in-Both.j c.in-Both.is in
    ((b.0, refl), (b.1, refl), b.2)

pub returns-in-Step : goal.returns-in-Step
returns-in-Step c =
    let f = c.args.self in
    let s = is_step f.lines.now f.well f.line f.inside c.in-Step.action c.in-Step.i c.in-Step.is in
    (s.0, (s.1, refl), s.2)
