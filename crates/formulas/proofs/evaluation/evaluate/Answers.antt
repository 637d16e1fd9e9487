use Rattle.std.proofs.Common.{◌≡◌, ◌+◌, ◌*◌, length, get_or, arith}
use Rattle.theory.specs.Formulas.{Holds}
use Rattle.formulas.specs.Lines.{formula}
use Rattle.formulas.specs.Evaluation.{Marks, RowsMarked}
use Rattle.formulas.proofs.Rows.{admitted, not_refused}
use Rattle.formulas.proofs.Marking.{marked_one}
use Rattle.formulas.proofs.Writing.{place_in_table}
use Rattle.formulas.proofs.evaluation.evaluate.Goals as goal

pub mark_line-requires : goal.mark_line-requires
mark_line-requires g c =
    let m = g.S.System.meaning c.args.source.now in
    let ls = c.args.lines.now in
    let room = length c.args.work.now in
    let a = admitted ls c.args.line c.args.state m.count room c.in_ok-admitted.ensures in
    record { wellformed = a.wellformed; few = a.few; inside = omega arith; room = omega (arith, a.fits); marked = c.loop-k.invariant.0 }

pub bounds-work-line : goal.bounds-work-line
bounds-work-line g c =
    let m = g.S.System.meaning c.args.source.now in
    let ls = c.args.lines.now in
    let room = length c.args.work.now in
    let e = c.states.ensures in
    let a = admitted ls c.args.line c.args.state m.count room c.in_ok-admitted.ensures in
    place_in_table c.args.line c.args.state (length ls) m.count c.states.result (length c.loop-k.work) e a.line (omega (arith, a.state)) (omega (arith, a.fits))

pub returns : goal.returns
returns g c =
    let m = g.S.System.meaning c.args.source.now in
    let ls = c.args.lines.now in
    let e = c.states.ensures in
    let room = length c.args.work.now in
    let a = admitted ls c.args.line c.args.state m.count room c.in_ok-admitted.ensures in
    let k : c.loop-k.k ≡ length ls = omega arith in
    let rows : RowsMarked m ls (length ls) c.loop-k.work = rw k at c.loop-k.invariant.0 in
    let mark : Marks (get_or c.loop-k.work (c.args.line * c.states.result + c.args.state) 0) (Holds m c.args.state (formula ls c.args.line)) = rw e (rows c.args.line a.line c.args.state a.state) in
    (not_refused ls c.args.line c.args.state m.count room a, a.wellformed, rows, c.loop-k.invariant.1, marked_one _ _ mark)
