use Rattle.terms.specs.Table.{subtree}
use Rattle.terms.proofs.Following.{listed_choice}
use Rattle.terms.proofs.listing.Listing.+first.Goals as goal

pub returns-in-Choice : goal.returns-in-Choice
returns-in-Choice t c =
    let arm = c.in-Choice in
    listed_choice (subtree c.args.term) (subtree arm.x) (subtree arm.y) arm.ensures.2 c.args.self.now c.first.new.self c.first-in-Choice.new.self c.first.ensures c.first-in-Choice.ensures
