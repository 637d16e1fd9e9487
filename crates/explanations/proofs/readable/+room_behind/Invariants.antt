use Rattle.explanations.proofs.readable.+room_behind.Given as goal

abbrev pub decreases-room_behind : goal.decreases-room_behind
decreases-room_behind l = l.formula.line
