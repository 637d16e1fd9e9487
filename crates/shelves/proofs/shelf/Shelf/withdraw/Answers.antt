use Rattle.std.proofs.Common.{rules}
use Rattle.shelves.proofs.Clearing.{withdraw_moved}
use Rattle.shelves.proofs.shelf.Shelf.withdraw.Goals as goal

pub returns-clause-moved : goal.returns-clause-moved
returns-clause-moved c = withdraw_moved _ c.args.self.now c.spend.new.self c.args.clearance.now (λ r r' p h. search rules) c.spend.result c.spend.ensures.moved
