use Rattle.std.proofs.Common.{rules}
use Rattle.shelves.proofs.Clearing.{release_moved}
use Rattle.shelves.proofs.shelf.Shelf.release.Goals as goal

pub returns-clause-moved : goal.returns-clause-moved
returns-clause-moved c = release_moved _ c.args.self.now c.spend.new.self c.args.clearance.now (λ r r' p h. search rules) c.spend.result c.spend.ensures.moved
