use Rattle.std.proofs.Common.{refl}
use Rattle.terms.proofs.Pushing.{push_joins}
use Rattle.terms.proofs.nodes.Nodes.push.Goals as goal

pub returns : goal.returns
returns c = push_joins c.args.self.now _ c.args.node refl refl c.requires.room
