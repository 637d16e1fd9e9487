use Rattle.std.proofs.Common.{arith}
use Rattle.terms.specs.Table.{subtree}
use Rattle.terms.proofs.Following.{choice_fits, choice_follows, sequence_room, sequence_fits, sequence_follows}
use Rattle.terms.proofs.listing.Listing.+behind.Goals as goal

pub behind-requires : goal.behind-requires
behind-requires t c =
    let arm = c.in-Choice in
    let e = arm.ensures in
    (omega arith, choice_fits (subtree c.args.term) (subtree arm.x) (subtree arm.y) e.2 c.args.self.now c.args.then c.requires)

pub returns-in-Choice : goal.returns-in-Choice
returns-in-Choice t c =
    let arm = c.in-Choice in
    choice_follows (subtree c.args.term) (subtree arm.x) (subtree arm.y) arm.ensures.2 c.args.self.now c.args.then c.requires
    c.behind.new.self c.behind-in-Choice.new.self c.behind.ensures c.behind-in-Choice.ensures

pub run-second-requires : goal.run-second-requires
run-second-requires t c =
    let arm = c.in-Sequence in
    sequence_room (subtree c.args.term) (subtree arm.x) (subtree arm.y) arm.ensures.2 c.args.self.now c.args.then c.requires

pub behind-requires-in-Sequence : goal.behind-requires-in-Sequence
behind-requires-in-Sequence t c =
    let arm = c.in-Sequence in
    let e = arm.ensures in
    let second = c.run-second in
    (omega arith, sequence_fits (subtree c.args.term) (subtree arm.x) (subtree arm.y) e.2 c.args.self.now c.args.then c.requires second.new.self second.result second.ensures.listed second.ensures.shows)

pub returns-in-Sequence : goal.returns-in-Sequence
returns-in-Sequence t c =
    let arm = c.in-Sequence in
    let second = c.run-second in
    sequence_follows (subtree c.args.term) (subtree arm.x) (subtree arm.y) arm.ensures.2 c.args.self.now c.args.then c.requires
    second.new.self second.result second.ensures.listed second.ensures.shows
    c.behind-in-Sequence.new.self c.behind-in-Sequence.ensures c.behind-in-Sequence-2.new.self c.behind-in-Sequence-2.ensures
