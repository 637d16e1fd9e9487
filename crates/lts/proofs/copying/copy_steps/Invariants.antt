use Rattle.std.proofs.Common.{◌≡◌, ◌-◌, ◌≤◌, drop, length}
use Rattle.lts.specs.Filling.{Filled}
use Rattle.lts.proofs.copying.copy_steps.Given as goal

abbrev pub invariant-loop-step : goal.invariant-loop-step
invariant-loop-step g l =
    let it = l.step-iterator in
    let m = g.S.System.meaning l.source in
    let k = l.end - l.from in
    record {
      left : drop it.next ((g.S.System.meaning it.source.now).steps it.state) ≡ drop k (m.steps l.s);
      begun : l.from ≤ l.end;
      inside : k ≤ length (m.steps l.s);
      filled : Filled m l.s k l.to;
    }
