use Rattle.terms.proofs.listing.Listing.+first.Given as goal

abbrev pub decreases-first : goal.decreases-first
decreases-first l = l.term.node
