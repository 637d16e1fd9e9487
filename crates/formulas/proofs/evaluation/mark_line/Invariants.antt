use Rattle.std.proofs.Common.{◌≡◌, ◌*◌, length, drop}
use Rattle.formulas.specs.Evaluation.{RowMarked, RowsMarked}
use Rattle.formulas.proofs.evaluation.mark_line.Given as goal

abbrev pub invariant-loop-s : goal.invariant-loop-s
invariant-loop-s g l =
    RowsMarked (g.S.System.meaning l.source) l.lines l.k l.work × RowMarked (g.S.System.meaning l.source) l.lines l.k l.s l.work × (drop (length l.lines * (g.S.System.meaning l.source).count) l.work ≡ drop (length l.lines * (g.S.System.meaning l.source).count) l.initial.work)
