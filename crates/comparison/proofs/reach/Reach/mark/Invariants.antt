use Rattle.std.proofs.Common.{◌≡◌, take, drop, length}
use Rattle.comparison.specs.Reach.{numbers, total, Reached}
use Rattle.comparison.proofs.reach.Reach.mark.Given as goal

abbrev pub invariant-loop-action : goal.invariant-loop-action
invariant-loop-action g l =
    let it = l.action-iterator in
    let steps = (g.S.System.meaning l.round.system.now).steps l.t in
    let k = length l.yielded in
    record { left : drop it.next ((g.S.System.meaning it.source.now).steps it.state) ≡ drop k steps; reached : Reached (numbers l.round.before.now.class) (take k steps) l.self; counted : l.pairs ≡ total l.self }
