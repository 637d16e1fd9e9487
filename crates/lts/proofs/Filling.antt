-- Filling a procedure with the steps of a source, state after state.
use Rattle.std.proofs.Common.{◌≡◌, ℕ, ◌+◌, ◌<◌, ◌≤◌, ◌≢◌, length, get_or, set, Some, sym, ap, ◌∙◌, ⊎_elim, arith, length-set, get_or-set_other, get_or-set_same, below_more}
use Rattle.std.specs.List.{slice_get}
use Rattle.std.proofs.lemmas.Bool.{cases_lt}
use Rattle.lts.specs.Meaning.{Meaning}
use Rattle.lts.specs.Layout.{Procedure, run_at, step_at}
use Rattle.lts.specs.Copying.{before}
use Rattle.lts.specs.Filling.{Filled}
use Rattle.lts.specs.declared.laid.Run.{Run}
use Rattle.lts.specs.Laws.Member.{nth_is}
use Rattle.lts.specs.Laws.Counting.{before_more}
use Rattle.lts.proofs.Counting.{before_rises}

abbrev pub with_step : Procedure → ℕ → ℕ × ℕ → Procedure
with_step p k x = record { states = p.states; ends = p.ends; runs = p.runs; steps = set p.steps k x }

abbrev pub with_run : Procedure → ℕ → Run → Procedure
with_run p s r = record { states = p.states; ends = p.ends; runs = set p.runs s r; steps = p.steps }

module _ (m : Meaning) (s j at : ℕ) (p : Procedure) (filled : Filled m s j p) (here : at ≡ before m s) where
  -- one step more of state s
  pub put_step : (x : ℕ × ℕ) → Some x ≡ slice_get (m.steps s) j → at + j < 512 → Filled m s (j + 1) (with_step p (at + j) x)
  put_step x e room =
      record { runs_size = filled.runs_size; places = simp length-set filled.places; states = filled.states; ends = filled.ends; froms = filled.froms; counts = filled.counts; full = full; begun = below_more _ _ begun last }
    where
      full : (k i : ℕ) → k < s → i < length (m.steps k) → get_or (set p.steps (at + j) x) (before m k + i) (0, 0) ≡ get_or (m.steps k) i (0, 0)
      full k i h l =
          let b = before_more m k in
          let r = before_rises m (k + 1) s (omega arith) in
          let ne : before m k + i ≢ at + j = omega arith in
          get_or-set_other p.steps (at + j) (before m k + i) x (0, 0) ne ∙ filled.full k i h l

      begun : (i : ℕ) → i < j → get_or (set p.steps (at + j) x) (before m s + i) (0, 0) ≡ get_or (m.steps s) i (0, 0)
      begun i h =
          let ne : before m s + i ≢ at + j = omega arith in
          get_or-set_other p.steps (at + j) (before m s + i) x (0, 0) ne ∙ filled.begun i h

      last : get_or (set p.steps (at + j) x) (before m s + j) (0, 0) ≡ get_or (m.steps s) j (0, 0)
      last =
          let n = filled.places in
          let l : before m s + j < length p.steps = omega arith in
          rw here (get_or-set_same p.steps (before m s + j) x (0, 0) l ∙ sym (nth_is x (0, 0) (m.steps s) j (sym e)))

  -- all steps of state s, and where they stand
  module _ (all : j ≡ length (m.steps s)) (few : s < 128) where
    abbrev own : Run
    own = record { from = at; count = j }

    run_kept : (k : ℕ) → k < s → run_at (with_run p s own) k ≡ run_at p k
    run_kept k h = let ne : k ≢ s = omega arith in get_or-set_other p.runs s k own (record { from = 0; count = 0 }) ne

    run_own : run_at (with_run p s own) s ≡ own
    run_own = let n = filled.runs_size in get_or-set_same p.runs s own (record { from = 0; count = 0 }) (omega arith)

    pub close_state : Filled m (s + 1) 0 (with_run p s own)
    close_state =
        record {
          runs_size = simp length-set filled.runs_size;
          places = filled.places;
          states = filled.states;
          ends = filled.ends;
          froms = below_more _ s (λ k h. ap (λ (r : Run). r.from) (run_kept k h) ∙ filled.froms k h) (ap (λ (r : Run). r.from) run_own ∙ here);
          counts = below_more _ s (λ k h. ap (λ (r : Run). r.count) (run_kept k h) ∙ filled.counts k h) (ap (λ (r : Run). r.count) run_own ∙ all);
          full = full;
          begun = λ i h. let b : ⊥ = omega arith in absurd b;
        }
      where
        full : (k i : ℕ) → k < s + 1 → i < length (m.steps k) → step_at p (before m k + i) ≡ get_or (m.steps k) i (0, 0)
        full k i h l = ⊎_elim below last (cases_lt k s)
          where
            below : k < s → step_at p (before m k + i) ≡ get_or (m.steps k) i (0, 0)
            below h' = filled.full k i h' l

            last : s ≤ k → step_at p (before m k + i) ≡ get_or (m.steps k) i (0, 0)
            last h' =
                let e : k ≡ s = omega arith in
                let n : length (m.steps k) ≡ length (m.steps s) = ap (λ (v : ℕ). length (m.steps v)) e in
                rw e (filled.begun i (omega arith))
