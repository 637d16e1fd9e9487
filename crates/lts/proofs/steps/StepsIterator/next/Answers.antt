use Rattle.std.proofs.Common.{◌<◌, drop, length, rules, arith, sym, ap, ◌+◌}
use Rattle.std.proofs.Math.ListN.{drop_of_length-le}
use Rattle.std.proofs.lemmas.List.{drop_more}
use Rattle.std.proofs.lemmas.Option.{slice_get_within, get_or_from_slice_get}
use Rattle.lts.specs.Laws.Member.{nth_missing}
use Rattle.lts.proofs.steps.StepsIterator.next.Goals as goal

pub returns-in_err-step-clause-steps : goal.returns-in_err-step-clause-steps
returns-in_err-step-clause-steps g c =
    let x = c.args.self.now in
    let none = drop_of_length-le ((g.S.System.meaning x.source.now).steps x.state) (nth_missing _ x.next c.in_err-step.ensures) in
    rw c.from_residual.ensures (none, none)

pub overflow_add-self : goal.overflow_add-self
overflow_add-self g c =
    let x = c.args.self.now in
    let short = (g.met.S.System.lawful x.source.now).short x.state in
    let inside = slice_get_within ((g.S.System.meaning x.source.now).steps x.state) x.next c.in_ok-step.step (sym c.in_ok-step.ensures) in
    search rules

pub returns-clause-steps : goal.returns-clause-steps
returns-clause-steps g c =
    let x = c.args.self.now in
    let xs = (g.S.System.meaning x.source.now).steps x.state in
    let at = sym c.in_ok-step.ensures in
    let e = drop_more xs x.next c.in_ok-step.step (slice_get_within xs x.next c.in_ok-step.step at) in
    let is = get_or_from_slice_get xs x.next c.in_ok-step.step c.in_ok-step.step at in
    rw is at e

pub returns-clause-goes : goal.returns-clause-goes
returns-clause-goes g c =
    let x = c.args.self.now in
    let xs = (g.S.System.meaning x.source.now).steps x.state in
    let at = sym c.in_ok-step.ensures in
    let e = drop_more xs x.next c.in_ok-step.step (slice_get_within xs x.next c.in_ok-step.step at) in
    let shorter : length (drop (x.next + 1) xs) < length (drop x.next xs) = omega (arith, ap length e) in
    record { on = λ _. (tt, tt, shorter); keeps = tt; rests = λ _. tt }
