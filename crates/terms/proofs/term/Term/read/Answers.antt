use Rattle.std.proofs.Common.{◌≡◌, length, subst, arith}
use Rattle.std.proofs.lemmas.Result.{err_from_is_err_and}
use Rattle.terms.proofs.Progress.{Progress, progress_more, progress_stop, progress_counted, refused_promised, finished_promised}
use Rattle.terms.proofs.term.Term.read.Goals as goal

pub returns-in_err-feed : goal.returns-in_err-feed
returns-in_err-feed c =
    let text = c.args.text.now in
    let e = err_from_is_err_and c.from_residual.result c.from_residual.ensures.1 in
    let stop = progress_stop text c.loop-offset.offset c.loop-offset.reader c.in_err-feed.field-0.0 c.loop-offset-test.true c.loop-offset.invariant c.in_err-feed.ensures in
    rw (e.1, e.2) (refused_promised text c.in_err-feed.field-0.0 (omega arith) stop)

pub loop-offset-preserved : goal.loop-offset-preserved
loop-offset-preserved c =
    progress_more c.args.text.now c.loop-offset.offset c.loop-offset.reader c.feed.new.self c.loop-offset-test.true c.loop-offset.invariant c.in_ok-feed.ensures

pub finish-requires : goal.finish-requires
finish-requires c =
    let e : c.loop-offset.offset ≡ length c.args.text.now = omega arith in
    progress_counted c.args.text.now c.loop-offset.reader (subst (λ n. Progress c.args.text.now n c.loop-offset.reader) e c.loop-offset.invariant)

pub returns : goal.returns
returns c =
    let e : c.loop-offset.offset ≡ length c.args.text.now = omega arith in
    finished_promised c.args.text.now c.loop-offset.reader c.finish.result (omega arith) (subst (λ n. Progress c.args.text.now n c.loop-offset.reader) e c.loop-offset.invariant) c.finish.ensures
