use Rattle.std.proofs.Common.{refl, arith}
use lib.ListN.{length-map}
use Rattle.shelves.specs.Runs.{call_of}
use Rattle.shelves.proofs.Running.{follows_none, through_more, through_all}
use Rattle.shelves.proofs.runs.run.Goals as goal

pub returns-then-answers-calls : goal.returns-then-answers-calls
returns-then-answers-calls g c = (simp length-map c.if-answers-calls.true, refl)

pub loop-k-init : goal.loop-k-init
loop-k-init g c = (follows_none c.args.number _ c.new-shelf.ensures, refl)

pub loop-k-preserved : goal.loop-k-preserved
loop-k-preserved g c = through_more (call_of g.S.System.meaning) c.args.number c.args.calls.now c.args.answers.now c.loop-k.k c.index-calls-k.result c.loop-k.answers c.perform.result _ _ c.loop-k-test.true (omega arith) c.index-calls-k.is c.loop-k.invariant c.perform.ensures

pub returns : goal.returns
returns g c =
    let t = through_all (call_of g.S.System.meaning) c.args.number c.args.calls.now c.args.answers.now c.loop-k.k c.loop-k.answers _ c.loop-k-test.false c.loop-k.auto.k-end c.loop-k.invariant in
    (simp length-map c.if-answers-calls.false, t.0, t.1)
