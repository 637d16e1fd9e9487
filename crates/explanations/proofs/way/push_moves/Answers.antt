use Rattle.std.proofs.Common.{string_bytes}
use Rattle.explanations.proofs.Following.{move_more}
use Rattle.explanations.proofs.way.push_moves.Goals as goal

pub loop-action-preserved : goal.loop-action-preserved
loop-action-preserved c =
    move_more c.args.steps.now c.loop-action.action-index c.loop-action.s (string_bytes c.args.out.now) (string_bytes c.loop-action.out) (string_bytes c.push_move.new.out) c.loop-action-test.true c.loop-action.invariant.0 c.loop-action.invariant.1 c.in_ok-push_move.ensures
