use Rattle.std.proofs.Common.{◌≡◌, ◌<◌, length, arith}
use Rattle.theory.specs.Formulas.{Holds}
use Rattle.formulas.specs.Lines.{formula}
use Rattle.formulas.specs.Evaluation.{Marks, RowMarked}
use Rattle.formulas.proofs.Writing.{mark_of, place_in_table, rows_more, write_after, write_next, write_keeps}
use Rattle.formulas.proofs.evaluation.mark_line.Goals as goal

pub bounds-work-k : goal.bounds-work-k
bounds-work-k g c =
    let e = c.states-n.ensures in
    place_in_table c.args.k c.loop-s.s (length c.args.lines.now) (g.S.System.meaning c.args.source.now).count c.states-n.result (length c.loop-s.work) e c.requires.inside (omega arith) (omega (arith, c.requires.room))

pub loop-s-preserved : goal.loop-s-preserved
loop-s-preserved g c =
    let m = g.S.System.meaning c.args.source.now in
    let ls = c.args.lines.now in
    let k = c.args.k in
    let s = c.loop-s.s in
    let x = c.from.result in
    let n = c.states-n.result in
    let w = c.loop-s.work in
    let e = c.states-n.ensures in
    let l : s < n = omega arith in
    let new : Marks x (Holds m s (formula ls k)) = rw c.from.ensures (mark_of c.holds.result (Holds m s (formula ls k)) c.holds.ensures) in
    let room = bounds-work-k g c in
    (write_after m ls k s x n w e l c.loop-s.invariant.0, write_next m ls k s x n w e l room new c.loop-s.invariant.1, write_keeps m ls k s x n w e l c.requires.inside c.args.work.now c.loop-s.invariant.2)

pub returns : goal.returns
returns g c =
    let m = g.S.System.meaning c.args.source.now in
    let e : c.loop-s.s ≡ m.count = omega (arith, c.states-n.ensures) in
    let row : RowMarked m c.args.lines.now c.args.k m.count c.loop-s.work = rw e at c.loop-s.invariant.1 in
    record { marked = rows_more m c.args.lines.now c.args.k c.loop-s.work c.loop-s.invariant.0 row; kept = c.loop-s.invariant.2 }
