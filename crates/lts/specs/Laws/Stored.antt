-- States laid out flat keep the bounds that every source promises.
use Rattle.std.specs.Prelude.{◌≡◌, ℕ, zero, suc, ◌+◌, ◌-◌, ◌<◌, ◌≤◌, length}
use native.Mathlib.Omega.{arith}
use Rattle.std.proofs.Math.Logic.{⊎_elim}
use Rattle.std.proofs.Math.Path.{ap}
use Rattle.std.proofs.Common.{◌∙◌, sym, lit≤, add-zero, add-one}
use Rattle.std.specs.List.{range_with_len}
use Rattle.std.proofs.lemmas.List.FromFn.{length-map-range_with_len}
use Rattle.std.proofs.lemmas.Bool.{le-ltb, lt-ltb, cases_lt}
use Rattle.lts.specs.Meaning.{Lawful, In}
use Rattle.lts.specs.Layout.{Procedure, from, many, step_at, listed, stored, end, Readable, Sound}
use Rattle.lts.specs.declared.laid.Laid.{Laid}
use Rattle.lts.specs.Copying.{before, total}
use Rattle.lts.specs.Laws.Member.{from_map, in_counting}
use Rattle.lts.specs.Laws.Counting.{before_more}

module _ {most room : ℕ} (p : Laid most room) (readable : Readable p) where
  -- a step that is listed stands at a place of its state
  Placed : ℕ → ℕ → ℕ → Type 0
  Placed s a t = (k : ℕ) × (s < p.states) × (k < many p s) × ((a, t) ≡ step_at p (from p s + k))

  placed : (s a t : ℕ) → In (a, t) ((stored p).steps s) → Placed s a t
  unfolding Placed
  placed s a t h = ⊎_elim inside outside (cases_lt s p.states)
    where
      inside : s < p.states → Placed s a t
      inside l =
          let h' : In (a, t) (listed p s) = rw (lt-ltb s p.states l) at h in
          let r = from_map (step_at p) (a, t) (range_with_len (from p s) (many p s)) h' in
          let b = in_counting r.0 (from p s) (many p s) r.1 in
          let e : r.0 ≡ from p s + (r.0 - from p s) = omega (arith, b.0) in
          (r.0 - from p s, l, omega (arith, b.0, b.1), r.2 ∙ ap (step_at p) e)

      outside : p.states ≤ s → Placed s a t
      outside l = let b : ⊥ = rw (le-ltb s p.states l) at h in absurd b

  brief : (s : ℕ) → length ((stored p).steps s) ≤ 4096
  brief s = ⊎_elim inside outside (cases_lt s p.states)
    where
      inside : s < p.states → length ((stored p).steps s) ≤ 4096
      inside l =
          let n = length-map-range_with_len (step_at p) (from p s) (many p s) in
          let end = readable.inside s l in
          let few = readable.steps_room in
          rw (lt-ltb s p.states l) (omega arith)

      outside : p.states ≤ s → length ((stored p).steps s) ≤ 4096
      outside l = rw (le-ltb s p.states l) (omega arith)

  listed_acts : (s a t : ℕ) → In (a, t) ((stored p).steps s) → a ≤ 63
  unfolding Placed
  listed_acts s a t h =
      let r = placed s a t h in
      let e : a ≡ (step_at p (from p s + r.0)).0 = ap (λ (v : ℕ × ℕ). v.0) r.3 in
      let k = readable.acts s r.0 r.1 r.2 in
      omega arith

  listed_aims : (s a t : ℕ) → In (a, t) ((stored p).steps s) → t < p.states
  unfolding Placed
  listed_aims s a t h =
      let r = placed s a t h in
      let e : t ≡ (step_at p (from p s + r.0)).1 = ap (λ (v : ℕ × ℕ). v.1) r.3 in
      let k = readable.aims s r.0 r.1 r.2 in
      omega arith

  pub stored_lawful : Lawful most (stored p)
  stored_lawful =
      record { some = readable.some; few = readable.few; no_ends = λ s l. rw (le-ltb s p.states l); no_steps = λ s l. rw (le-ltb s p.states l); short = brief; acts = listed_acts; aims = listed_aims }

-- A procedure in a slot: the steps of its states stand one behind another.
module _ (p : Procedure) (sound : Sound p) where
  -- where the steps of each state begin rises with the state
  pub rises_to : (s d : ℕ) → s + d < p.states → from p s ≤ from p (s + d)
  rises_to s zero h = rw add-zero (omega arith)
  rises_to s (suc d) h =
      let below = rises_to s d (omega arith) in
      let last = sound.behind (s + d) (omega arith) in
      let e : s + d + 1 ≡ s + suc d = omega arith in
      omega (arith, ap (from p) e)

  -- and not before those of a state below end
  pub rises_past : (s d : ℕ) → s + 1 + d < p.states → from p s + many p s ≤ from p (s + 1 + d)
  rises_past s d h = omega (arith, sound.behind s (omega arith), rises_to (s + 1) d h)

  -- the steps of a state end before those of the whole do
  pub all_room : (s : ℕ) → s < p.states → from p s + many p s ≤ end p
  all_room s l = ⊎_elim last below (cases_lt (p.states - 1) (s + 1))
    where
      last : p.states - 1 < s + 1 → from p s + many p s ≤ end p
      last h = let e : s ≡ p.states - 1 = omega arith in rw e (omega arith)

      below : s + 1 ≤ p.states - 1 → from p s + many p s ≤ end p
      below h =
          let e : s + 1 + (p.states - 1 - (s + 1)) ≡ p.states - 1 = omega arith in
          let r = rises_past s (p.states - 1 - (s + 1)) (omega arith) in
          omega (arith, ap (from p) e)

  -- so it can be read as a system
  pub sound_readable : Readable p
  sound_readable = record {
    some = sound.some;
    few = sound.few;
    states_room = lit≤ tt;
    steps_room = lit≤ tt;
    inside = λ s l. omega (arith, all_room s l, sound.room);
    acts = λ s k l h. sound.acts (from p s + k) (omega (arith, all_room s l));
    aims = λ s k l h. sound.aims (from p s + k) (omega (arith, all_room s l));
  }

  pub sound_lawful : Lawful 128 (stored p)
  sound_lawful = stored_lawful p sound_readable

  many_listed : (s : ℕ) → s < p.states → many p s ≡ length ((stored p).steps s)
  many_listed s l = rw (lt-ltb s p.states l) (sym (length-map-range_with_len (step_at p) (from p s) (many p s)))

  -- the steps of a state stand behind all that are listed out of the states below
  pub from_before : (s : ℕ) → s < p.states → from p s ≡ from p 0 + before (stored p) s
  from_before zero h = omega arith
  from_before (suc s) h =
      let below = from_before s (omega arith) in
      let next = sound.behind s (omega arith) in
      let more = before_more (stored p) s in
      let listed = many_listed s (omega arith) in
      let e : from p (s + 1) ≡ from p 0 + before (stored p) (s + 1) = omega arith in
      rw add-one at e

  -- there are no places but those of the steps that are listed in all
  pub total_end : from p 0 + total (stored p) ≡ end p
  total_end =
      let some = sound.some in
      let last = from_before (p.states - 1) (omega arith) in
      let more = before_more (stored p) (p.states - 1) in
      let listed = many_listed (p.states - 1) (omega arith) in
      let e : p.states - 1 + 1 ≡ p.states = omega arith in
      omega (arith, ap (before (stored p)) e)

  pub total_room : total (stored p) ≤ 512
  total_room = omega (arith, total_end, sound.room)
