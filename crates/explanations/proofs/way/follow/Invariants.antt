use Rattle.std.proofs.Common.{◌≡◌, vec_items}
use Rattle.explanations.proofs.Following.{Underway}
use Rattle.explanations.proofs.way.follow.Given as goal

abbrev pub invariant-loop-action : goal.invariant-loop-action
invariant-loop-action g l =
    (l.rest.lines.now ≡ l.formula.lines.now) × Underway (g.S.System.meaning l.source) l.formula.lines.now l.formula.line (vec_items l.steps) l.s l.rest.line

abbrev pub decreases-loop-action : goal.decreases-loop-action
decreases-loop-action g l = l.rest.line
