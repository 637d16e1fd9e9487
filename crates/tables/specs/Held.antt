-- What holds of every draft, over its fields.
use Rattle.std.specs.Prelude.{◌≡◌, ℕ, ◌<◌, ◌≤◌, Bool, List, length, take, slice_index}
use Rattle.lts.specs.Meaning.{In}
use Rattle.tables.specs.Drawing.{out_of}
use Rattle.tables.specs.declared.step.Step.{Step}

-- a step between states below n
pub record Inside (n : ℕ) (x : Step) : Type 0 where
  pub from : x.from < n
  pub action : x.action ≤ 63
  pub to : x.to < n

-- a number for each of 128 states
pub record Numbers (f : ℕ → ℕ) (ns : List ℕ) : Type 0 where
  pub size : length ns ≡ 128
  pub each : (s : ℕ) → s < 128 → slice_index ns s ≡ f s

-- the first steps are used: they lead between the states, and are counted by the state that they leave
pub record Held (states : ℕ) (ends : List Bool) (counts : List ℕ) (steps : List Step) (used : ℕ) : Type 0 where
  pub some : 1 ≤ states
  pub few : states ≤ 128
  pub marks : length ends ≡ 128
  pub counted : Numbers (λ s. length (out_of s (take used steps))) counts
  pub places : length steps ≡ 512
  pub room : used ≤ 512
  pub inside : (x : Step) → In x (take used steps) → Inside states x
