use Rattle.formulas.proofs.Stepping.{first_found, none_found}
use Rattle.formulas.proofs.marked.first_marked.Goals as goal

pub returns-in_err-target : goal.returns-in_err-target
returns-in_err-target g c =
    rw c.from_residual.ensures (none_found c.args.action c.args.row.now ((g.S.System.meaning c.args.source.now).steps c.args.s) c.in_err-target.ensures)

pub returns : goal.returns
returns g c =
    first_found c.args.action c.args.row.now ((g.S.System.meaning c.args.source.now).steps c.args.s) (c.in_ok-target.field-0-0, c.in_ok-target.target) c.in_ok-target.ensures
