use Rattle.std.proofs.Common.{sym, arith, rules}
use Rattle.std.proofs.lemmas.Option.{slice_get_past}
use Rattle.lts.specs.Layout.{stored}
use Rattle.lts.proofs.Reading.{placed, step_inside}
use Rattle.lts.proofs.flat.FlatSystem.step.Goals as goal

pub returns-then-k-step_count : goal.returns-then-k-step_count
returns-then-k-step_count g c = sym (slice_get_past ((stored c.args.self.now.of.now).steps c.args.s) c.args.k (omega (arith, c.step_count.ensures)))

pub overflow_add-result : goal.overflow_add-result
overflow_add-result g c =
    let h = placed c.args.self.now.of.now c.args.self.now.readable c.args.s c.args.k (omega (arith, c.step_count.ensures)) in
    search rules

pub offset_bounds-self-self : goal.offset_bounds-self-self
offset_bounds-self-self g c =
    let h = placed c.args.self.now.of.now c.args.self.now.readable c.args.s c.args.k (omega (arith, c.step_count.ensures)) in
    search rules

pub bounds-self-self : goal.bounds-self-self
bounds-self-self g c =
    let h = placed c.args.self.now.of.now c.args.self.now.readable c.args.s c.args.k (omega (arith, c.step_count.ensures)) in
    omega arith

pub returns : goal.returns
returns g c =
    let h = placed c.args.self.now.of.now c.args.self.now.readable c.args.s c.args.k (omega (arith, c.step_count.ensures)) in
    step_inside c.args.self.now.of.now c.args.s h.0 c.args.k h.2
