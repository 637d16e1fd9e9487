use Rattle.std.proofs.Common.{◌≡◌, ◌++◌, take, string_bytes}
use Rattle.explanations.specs.Ways.{way_text}
use Rattle.explanations.proofs.way.push_offsets.Given as goal

abbrev pub invariant-loop-action : goal.invariant-loop-action
invariant-loop-action l = string_bytes l.out ≡ string_bytes l.initial.out ++ way_text l.text (take l.action-index l.steps)
