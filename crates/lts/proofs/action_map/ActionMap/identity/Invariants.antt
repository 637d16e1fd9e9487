use Rattle.std.proofs.Common.{◌≡◌, ℕ, ◌<◌, length, get_or}
use Rattle.lts.proofs.action_map.ActionMap.identity.Given as goal

abbrev pub invariant-loop-action : goal.invariant-loop-action
invariant-loop-action l =
    (length l.entry-items ≡ 64) × ((k : ℕ) → k < l.action → get_or l.entry-items k 0 ≡ k)
