use Rattle.std.proofs.Common.{refl, arith}
use Rattle.terms.specs.Table.{subtree}
use Rattle.terms.proofs.Asking.{lays_drawn}
use Rattle.terms.proofs.Following.{few_firsts, whole_lays}
use Rattle.terms.proofs.listing.Listing.of.Goals as goal

pub run-whole-requires : goal.run-whole-requires
run-whole-requires c = omega (arith, few_firsts (subtree c.args.term))

pub returns : goal.returns
returns c =
    let new = c.new-listing in
    let whole = c.run-whole in
    let lays = whole_lays (subtree c.args.term) new.result whole.new.self c.give.new.self c.behind.new.self whole.result (record { from = 0; count = 0 })
    new.ensures.listed new.ensures.states whole.ensures.listed whole.ensures.shows c.give.ensures c.behind.ensures refl in
    lays_drawn (subtree c.args.term) c.behind.new.self c.requires lays
