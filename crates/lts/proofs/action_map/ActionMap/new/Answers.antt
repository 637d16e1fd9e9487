use Rattle.lts.proofs.Mapping.{all_actions, first_told}
use Rattle.lts.proofs.action_map.ActionMap.new.Goals as goal

pub invariant_of-result : goal.invariant_of-result
invariant_of-result c = record { actions = all_actions c.args.entries c.in-None.ensures.first }

pub returns-in-Some : goal.returns-in-Some
returns-in-Some c = first_told c.args.entries c.in-Some.place c.in-Some.ensures.inside c.in-Some.ensures.first
