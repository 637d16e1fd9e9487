use Rattle.std.proofs.Common.{arith}
use Rattle.lts.proofs.Mapping.{changed_actions}
use Rattle.lts.proofs.action_map.ActionMap.with.Goals as goal

pub invariant_of-result : goal.invariant_of-result
invariant_of-result c =
    record { actions = changed_actions c.args.self.now.entries c.args.action c.args.entry (omega arith) c.args.self.now.actions }
