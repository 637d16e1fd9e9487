use Rattle.terms.proofs.listing.Listing.+behind.Given as goal

abbrev pub decreases-behind : goal.decreases-behind
decreases-behind l = l.term.node
