use Rattle.std.proofs.Common.{◌≡◌, ◌≤◌, arith}
use Rattle.lts.specs.Copying.{total}
use Rattle.lts.specs.Filling.{Filled}
use Rattle.lts.specs.Laws.Most.{narrow}
use Rattle.lts.proofs.Counting.{state_room}
use Rattle.lts.proofs.Copies.{same_copy, sound_copy}
use Rattle.lts.proofs.copying.copied.Goals as goal

pub copy_steps-used-requires-clause-room : goal.copy_steps-used-requires-clause-room
copy_steps-used-requires-clause-room g c =
    let m = g.S.System.meaning c.args.source.now in
    omega (arith, state_room m c.loop-s.s (omega (arith, c.states-s-end.ensures)), c.loop-s.invariant.0, c.step_total.ensures)

pub returns : goal.returns
returns g c =
    let m = g.S.System.meaning c.args.source.now in
    let law = narrow (g.met.S.Source.fits c.args.source.now) g.S.Source.bounded (g.met.S.System.lawful c.args.source.now) in
    let room : total m ≤ 512 = omega (arith, c.step_total.ensures) in
    let e : c.loop-s.s ≡ m.count = omega (arith, c.states-s-end.ensures) in
    let filled : Filled m m.count 0 c.loop-s.copy = rw e at c.loop-s.invariant.1 in
    (room, sound_copy m law c.loop-s.copy filled room, same_copy m law c.loop-s.copy filled)
