use Rattle.std.proofs.Common.{◌∙◌}
use Rattle.listings.proofs.Seeking.{has_action}
use Rattle.listings.proofs.offsets.is_action.Goals as goal

pub returns : goal.returns
returns c = c.is_some.ensures ∙ has_action c.args.byte c.action.result c.action.ensures
