use Rattle.std.proofs.Common.{sym, ◌∙◌}
use Rattle.lts.specs.Map.{replaced}
use Rattle.lts.specs.Laws.Member.{nth_map_none}
use Rattle.lts.proofs.Mapping.{entry_found, step_mapped}
use Rattle.lts.proofs.mapped.MappedSystem.step.Goals as goal

pub returns-in_err-action : goal.returns-in_err-action
returns-in_err-action g c =
    c.from_residual.ensures ∙ sym (nth_map_none (replaced c.args.self.now.map.now.entries) ((g.S.System.meaning c.args.self.now.source.now).steps c.args.s) c.args.k (sym c.in_err-action.ensures))

pub returns-in_err-entry : goal.returns-in_err-entry
returns-in_err-entry g c =
    absurd (entry_found c.args.self.now.map.now.entries (g.S.System.meaning c.args.self.now.source.now) (g.met.S.System.lawful c.args.self.now.source.now) c.args.s c.args.k c.in_ok-action.action c.in_ok-action.target c.in_ok-action.ensures c.in_err-entry.ensures)

pub returns : goal.returns
returns g c =
    step_mapped c.args.self.now.map.now.entries (g.S.System.meaning c.args.self.now.source.now) (g.met.S.System.lawful c.args.self.now.source.now) c.args.s c.args.k c.in_ok-action.action c.in_ok-action.target c.in_ok-action.ensures c.in_ok-entry.entry c.in_ok-entry.ensures
