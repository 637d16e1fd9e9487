-- A procedure that is filled to the last state is sound, and means what the source means.
use Rattle.std.proofs.Common.{◌≡◌, ℕ, ◌+◌, ◌-◌, ◌<◌, ◌≤◌, length, get_or, Some, sym, ap, ◌∙◌, ⊎_elim, arith}
use Rattle.std.specs.List.{slice_get}
use Rattle.std.proofs.lemmas.List.FromFn.{length-map-range_with_len, get_or-map-range_with_len}
use Rattle.std.proofs.lemmas.List.{ext_get_or}
use Rattle.std.proofs.lemmas.Option.{slice_get-get_or}
use Rattle.std.proofs.lemmas.Bool.{le-ltb, lt-ltb, cases_lt}
use Rattle.lts.specs.Meaning.{Meaning, Lawful}
use Rattle.lts.specs.Layout.{Procedure, from, many, step_at, listed, stored, end, Sound}
use Rattle.lts.specs.Copying.{before, total}
use Rattle.lts.specs.Filling.{Filled}
use Rattle.lts.specs.Laws.Member.{listed_action, listed_target}
use Rattle.lts.specs.Laws.Same.{same_meaning}
use Rattle.lts.specs.Laws.Counting.{before_more}
use Rattle.lts.proofs.Counting.{place_state}

module _ (m : Meaning) (law : Lawful 128 m) (p : Procedure) (filled : Filled m m.count 0 p) where
  -- the k-th place of state s holds its k-th step
  step_there : (s k : ℕ) → s < m.count → k < length (m.steps s) → step_at p (from p s + k) ≡ get_or (m.steps s) k (0, 0)
  step_there s k h l = rw (filled.froms s h) (filled.full s k h l)

  same_listed : (s : ℕ) → s < m.count → listed p s ≡ m.steps s
  same_listed s h =
      let e = filled.counts s h in
      let n = length-map-range_with_len (step_at p) (from p s) (many p s) in
      ext_get_or (0, 0) (listed p s) (m.steps s) (omega arith) (λ i l. at i (omega arith))
    where
      at : (i : ℕ) → i < length (m.steps s) → get_or (listed p s) i (0, 0) ≡ get_or (m.steps s) i (0, 0)
      at i l =
          let e = filled.counts s h in
          get_or-map-range_with_len (step_at p) (from p s) (many p s) i (from p s + i) (0, 0) (omega arith) (omega arith) ∙ step_there s i h l

  same_ends : (s : ℕ) → (stored p).ends s ≡ m.ends s
  same_ends s = ⊎_elim inside outside (cases_lt s m.count)
    where
      inside : s < m.count → (stored p).ends s ≡ m.ends s
      inside l = rw (filled.states, lt-ltb s m.count l) (filled.ends s l)

      outside : m.count ≤ s → (stored p).ends s ≡ m.ends s
      outside l = rw (filled.states, le-ltb s m.count l) (sym (law.no_ends s l))

  same_steps : (s : ℕ) → (stored p).steps s ≡ m.steps s
  same_steps s = ⊎_elim inside outside (cases_lt s m.count)
    where
      inside : s < m.count → (stored p).steps s ≡ m.steps s
      inside l = rw (filled.states, lt-ltb s m.count l) (same_listed s l)

      outside : m.count ≤ s → (stored p).steps s ≡ m.steps s
      outside l = rw (filled.states, le-ltb s m.count l) (sym (law.no_steps s l))

  pub same_copy : stored p ≡ m
  same_copy = same_meaning (stored p) m filled.states same_ends same_steps

  -- a place of a step holds one that is listed
  Listed : ℕ → Type 0
  Listed k = (s i : ℕ) × (Some (step_at p k) ≡ slice_get (m.steps s) i)

  filled_place : (k : ℕ) → k < total m → Listed k
  unfolding Listed
  filled_place k h =
      let r = place_state m m.count k h in
      let e = filled.full r.0 r.1 r.2 r.3 in
      let f = ap (step_at p) r.4 ∙ e in
      (r.0, r.1, ap Some f ∙ sym (slice_get-get_or (m.steps r.0) r.1 (0, 0) r.3))

  end_copy : end p ≡ total m
  end_copy =
      let some = law.some in
      let last : m.count - 1 < m.count = omega arith in
      let e : m.count - 1 + 1 ≡ m.count = omega arith in
      rw filled.states (omega (arith, filled.froms (m.count - 1) last, filled.counts (m.count - 1) last, before_more m (m.count - 1), ap (before m) e))

  behind_copy : (s : ℕ) → s + 1 < p.states → from p (s + 1) ≡ from p s + many p s
  behind_copy s h =
      let next : s + 1 < m.count = rw filled.states at h in
      let this : s < m.count = omega arith in
      omega (arith, filled.froms s this, filled.counts s this, filled.froms (s + 1) next, before_more m s)

  pub sound_copy : total m ≤ 512 → Sound p
  unfolding Listed
  sound_copy room =
      let n = filled.states in
      let a = law.some in
      let b = law.few in
      record { some = omega arith; few = omega arith; behind = behind_copy; room = rw end_copy room; acts = acts; aims = aims }
    where
      acts : (k : ℕ) → k < end p → (step_at p k).0 ≤ 63
      acts k h =
          let r = filled_place k (omega (arith, end_copy)) in
          listed_action m law r.0 r.1 (step_at p k).0 (step_at p k).1 r.2

      aims : (k : ℕ) → k < end p → (step_at p k).1 < p.states
      aims k h =
          let r = filled_place k (omega (arith, end_copy)) in
          rw filled.states (listed_target m law r.0 r.1 (step_at p k).0 (step_at p k).1 r.2)
