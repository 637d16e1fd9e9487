use Rattle.std.proofs.Common.{◌≡◌, drop, length}
use Rattle.comparison.specs.Layouts.{Laying}
use Rattle.comparison.proofs.layout.Layout.lay.Given as goal

abbrev pub invariant-loop-action : goal.invariant-loop-action
invariant-loop-action g l =
    let it = l.action-iterator in
    let m = g.S.System.meaning l.system in
    let k = length l.yielded in
    record { left : drop it.next ((g.S.System.meaning it.source.now).steps it.state) ≡ drop k (m.steps l.s); laying : Laying m l.s l.from k l.seen l.self }
