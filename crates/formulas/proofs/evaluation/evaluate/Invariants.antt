use Rattle.std.proofs.Common.{◌≡◌, ◌*◌, length, drop}
use Rattle.formulas.specs.Evaluation.{RowsMarked}
use Rattle.formulas.proofs.evaluation.evaluate.Given as goal

abbrev pub invariant-loop-k : goal.invariant-loop-k
invariant-loop-k g l =
    RowsMarked (g.S.System.meaning l.source) l.lines l.k l.work × (drop (length l.lines * (g.S.System.meaning l.source).count) l.work ≡ drop (length l.lines * (g.S.System.meaning l.source).count) l.initial.work)
