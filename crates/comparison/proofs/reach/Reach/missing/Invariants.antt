use Rattle.std.proofs.Common.{◌≡◌, ℕ, true, take, drop, length}
use Rattle.comparison.specs.Reach.{numbers, hits, holds}
use Rattle.comparison.proofs.reach.Reach.missing.Given as goal

abbrev pub invariant-loop-action : goal.invariant-loop-action
invariant-loop-action g l =
    let it = l.action-iterator in
    let steps = (g.S.System.meaning l.round.system.now).steps l.t in
    let k = length l.yielded in
    record { left : drop it.next ((g.S.System.meaning it.source.now).steps it.state) ≡ drop k steps; held : (a c : ℕ) → hits (numbers l.round.before.now.class) a c (take k steps) ≡ true → holds l.self a c ≡ true }
