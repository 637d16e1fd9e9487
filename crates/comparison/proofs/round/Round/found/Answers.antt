use Rattle.std.proofs.Common.{sym, ◌∙◌, arith}
use Rattle.std.proofs.lemmas.Bool.{cond-true, cond-false}
use Rattle.comparison.specs.Marks.{written}
use Rattle.comparison.proofs.Parting.{part_fits, lines_room, found_works}
use Rattle.comparison.proofs.round.Round.found.Goals as goal

pub divide-with-requires : goal.divide-with-requires
divide-with-requires g c =
    lines_room (g.met.S.System.lawful c.args.self.now.system.now) (omega arith) c.requires.working c.requires.state c.requires.parting

pub part-requires-clause-fits : goal.part-requires-clause-fits
part-requires-clause-fits g c =
    part_fits (g.met.S.System.lawful c.args.self.now.system.now) (omega arith) c.requires.working c.requires.state c.requires.parting

pub part-requires-else-split-clause-fits : goal.part-requires-else-split-clause-fits
part-requires-else-split-clause-fits g c =
    part_fits (g.met.S.System.lawful c.args.self.now.system.now) (omega arith) c.requires.working c.requires.state c.requires.parting

pub returns-then-split : goal.returns-then-split
returns-then-split g c =
    let side = c.if-split.true in
    let gone = c.divide-with.ensures.with ∙ sym (cond-true c.args.split.side _ _ side) in
    let stays = c.divide-with.ensures.without ∙ sym (cond-true c.args.split.side _ _ side) in
    let r = found_works (g.met.S.System.lawful c.args.self.now.system.now) (omega arith) c.requires.working c.requires.state c.requires.parting c.divide-with.result.0 c.divide-with.result.1 gone stays (written c.divide-with.new.self) c.part.new.self c.divide-with.ensures.lines c.part.ensures.parted c.part.ensures.linked in
    record { working = r.0; kept = r.1 }

pub returns-else-split : goal.returns-else-split
returns-else-split g c =
    let side = c.if-split.false in
    let gone = c.divide-with.ensures.without ∙ sym (cond-false c.args.split.side _ _ side) in
    let stays = c.divide-with.ensures.with ∙ sym (cond-false c.args.split.side _ _ side) in
    let r = found_works (g.met.S.System.lawful c.args.self.now.system.now) (omega arith) c.requires.working c.requires.state c.requires.parting c.divide-with.result.1 c.divide-with.result.0 gone stays (written c.divide-with.new.self) c.part-else-split.new.self c.divide-with.ensures.lines c.part-else-split.ensures.parted c.part-else-split.ensures.linked in
    record { working = r.0; kept = r.1 }
