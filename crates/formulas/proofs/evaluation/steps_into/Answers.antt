use Rattle.formulas.proofs.Stepping.{decided}
use Rattle.formulas.proofs.evaluation.steps_into.Goals as goal

pub returns : goal.returns
returns g c =
    rw c.is_some.ensures (decided ((g.S.System.meaning c.args.source.now).steps c.args.s) c.args.action c.args.row.now c.first_marked.result c.first_marked.ensures)
