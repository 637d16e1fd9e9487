-- Two procedures side by side: the states of p, then those of q.
use Rattle.std.specs.Prelude.{ℕ, ◌+◌, ◌-◌, cond, map, nat_lt}
use Rattle.lts.specs.Meaning.{Meaning}

-- a step whose target is n states further on
abbrev pub raised : ℕ → ℕ × ℕ → ℕ × ℕ
raised n x = (x.0, n + x.1)

-- state s of p is state s, state t of q is state p .count + t
abbrev pub joined : Meaning → Meaning → Meaning
joined p q =
    record { count = p.count + q.count; ends = λ s. cond (nat_lt s p.count) (p.ends s) (q.ends (s - p.count)); steps = λ s. cond (nat_lt s p.count) (p.steps s) (map (raised p.count) (q.steps (s - p.count))) }
