-- What states laid out flat mean: the steps of state s stand at `many` places from place `from` on.
use Rattle.std.specs.Prelude.{◌≡◌, ℕ, ◌+◌, ◌-◌, ◌<◌, ◌≤◌, false, cond, ◌&&◌, List, [], map, nat_lt, slice_index_or}
use Rattle.std.specs.List.{range_with_len}
use Rattle.lts.specs.Meaning.{Meaning}
use Rattle.lts.specs.declared.laid.Laid.{Laid}
use Rattle.lts.specs.declared.laid.Run.{Run}

-- as it is kept in a slot
abbrev pub Procedure : Type 0
Procedure = Laid 128 512

module _ {most room : ℕ} where
  abbrev pub run_at : Laid most room → ℕ → Run
  run_at p s = slice_index_or p.runs s (record { from = 0; count = 0 })

  -- where the steps of state s begin
  abbrev pub from : Laid most room → ℕ → ℕ
  from p s = (run_at p s).from

  -- how many they are
  abbrev pub many : Laid most room → ℕ → ℕ
  many p s = (run_at p s).count

  abbrev pub step_at : Laid most room → ℕ → ℕ × ℕ
  step_at p k = slice_index_or p.steps k (0, 0)

  -- the steps at n places from place i on
  abbrev pub run : Laid most room → ℕ → ℕ → List (ℕ × ℕ)
  run p i n = map (step_at p) (range_with_len i n)

  abbrev pub listed : Laid most room → ℕ → List (ℕ × ℕ)
  listed p s = run p (from p s) (many p s)

  abbrev pub stored : Laid most room → Meaning
  stored p = record { count = p.states; ends = λ s. nat_lt s p.states && slice_index_or p.ends s false; steps = λ s. cond (nat_lt s p.states) (listed p s) [] }

  -- what makes it readable as a system
  pub record Readable (p : Laid most room) : Type 0 where
    pub some : 1 ≤ p.states
    pub few : p.states ≤ most
    pub states_room : most ≤ 256
    pub steps_room : room ≤ 4096
    pub inside : (s : ℕ) → s < p.states → from p s + many p s ≤ room
    pub acts : (s k : ℕ) → s < p.states → k < many p s → (step_at p (from p s + k)).0 ≤ 63
    pub aims : (s k : ℕ) → s < p.states → k < many p s → (step_at p (from p s + k)).1 < p.states

-- where the steps of the last state end
abbrev pub end : Procedure → ℕ
end p = from p (p.states - 1) + many p (p.states - 1)

-- what makes a procedure in a slot readable as a source: the steps of its states stand one behind another
pub record Sound (p : Procedure) : Type 0 where
  pub some : 1 ≤ p.states
  pub few : p.states ≤ 128
  pub behind : (s : ℕ) → s + 1 < p.states → from p (s + 1) ≡ from p s + many p s
  pub room : end p ≤ 512
  pub acts : (k : ℕ) → k < end p → (step_at p k).0 ≤ 63
  pub aims : (k : ℕ) → k < end p → (step_at p k).1 < p.states
