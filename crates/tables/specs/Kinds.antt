-- The kinds of record.
use Rattle.std.specs.Prelude.{ℕ, cond, ◌==◌}

pub data Kind : Type 0 where
  head : Kind
  end : Kind
  step : Kind
  remark : Kind
  unknown : ℕ → Kind

-- the kind that a number stands for
abbrev pub sort : ℕ → Kind
sort k = cond (k == 1) head (cond (k == 2) end (cond (k == 3) step (cond (k == 4) remark (unknown k))))
