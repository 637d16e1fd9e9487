-- What a copy of a source is, and which sources have one.
use Rattle.std.specs.Prelude.{◌≡◌, ℕ, ◌<◌, ◌≤◌, length, Some, None, sum_by, Option}
use Rattle.std.specs.List.{range_with_len}
use Rattle.lts.specs.Meaning.{Meaning}
use Rattle.lts.specs.Layout.{Procedure, stored, Sound}

-- the number of steps listed out of the states below s
abbrev pub before : Meaning → ℕ → ℕ
before m s = sum_by (λ k. length (m.steps k)) (range_with_len 0 s)

-- the number of steps listed in all
abbrev pub total : Meaning → ℕ
total m = before m m.count

-- nothing exactly past 512 steps; otherwise a procedure of the same meaning
abbrev pub Copied : Meaning → Option Procedure → Type 0
Copied m None = 512 < total m
Copied m (Some p) = (total m ≤ 512) × Sound p × (stored p ≡ m)
