use Rattle.std.proofs.Common.{string_bytes, refl}
use Rattle.drawings.proofs.Rows.{stepped_more, stepped_all}
use Rattle.drawings.proofs.procedure.push_steps.Goals as goal

pub loop-k-init : goal.loop-k-init
loop-k-init g c =
    let e = c.enumerate-k-items.ensures in
    rw (c.into_iter-k-iterator.ensures.into_iter_gives, e.count, e.source, c.of.ensures) refl

pub loop-k-preserved : goal.loop-k-preserved
loop-k-preserved g c =
    let e = c.in-Some.ensures.steps in
    let written = rw e.1 at c.in_ok-push_step.ensures in
    rw e.2 (stepped_more c.args.form c.args.s c.args.end ((g.S.System.meaning c.args.source.now).steps c.args.s) c.loop-k.k-iterator.count _ (string_bytes c.args.out.now) (string_bytes c.loop-k.out) c.loop-k.invariant (c.in-Some.action, c.in-Some.target) _ (string_bytes c.push_step.new.out) e.0 written)

pub returns : goal.returns
returns g c =
    stepped_all c.args.form c.args.s c.args.end ((g.S.System.meaning c.args.source.now).steps c.args.s) c.loop-k.k-iterator.count _ (string_bytes c.args.out.now) (string_bytes c.loop-k.out) c.loop-k.invariant c.in-None.ensures.steps.0.0
