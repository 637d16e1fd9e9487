use Rattle.std.proofs.Common.{◌≡◌, ℕ, ◌-◌, ◌<◌, ◌≤◌, Some, None}
use Rattle.comparison.specs.Reach.{holds}
use Rattle.comparison.specs.Landing.{sent}
use Rattle.comparison.specs.Links.{Next}
use Rattle.comparison.proofs.links.Links.sent.Given as goal

abbrev pub invariant-loop-next : goal.invariant-loop-next
invariant-loop-next l =
    record { low : l.class < 256; at : ℕ; inside : at ≤ l.self.made; is : l.class ≡ sent (holds l.here) l.self.splits l.first l.from at; next : Next l.self.splits l.self.made l.class at l.next }

abbrev pub decreases-loop-next : goal.decreases-loop-next
decreases-loop-next l = elim l.next [ None ↦ 0 | Some j ↦ l.self.made - j ]
