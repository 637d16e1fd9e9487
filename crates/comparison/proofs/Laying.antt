-- Laying out a system, step after step and state after state.
use Rattle.std.proofs.Common.{◌≡◌, ℕ, zero, suc, ◌+◌, ◌-◌, ◌<◌, ◌≤◌, Bool, true, false, ◌≢◌, List, [], ◌∷◌, ◌++◌, map, length, get_or, take, set, Some, sym, refl, ap, ◌∙◌, subst, ap₂, ⊎_elim, arith, length-set, below_more}
use Rattle.std.specs.List.{slice_get, range_with_len}
use Rattle.std.proofs.lemmas.List.FromFn.{map-range_with_len_more}
use Rattle.std.proofs.lemmas.List.{get_or-set_same, get_or-set_other}
use Rattle.std.proofs.lemmas.Bool.{not-false}
use Rattle.lts.specs.Meaning.{Meaning, In}
use Rattle.lts.specs.declared.laid.Run.{Run}
use Rattle.lts.specs.Laws.Member.{in_left, in_right, in_either}
use Rattle.comparison.specs.Reach.{hits, holds, Put}
use Rattle.lts.specs.Layout.{run_at, from, many, run}
use Rattle.comparison.specs.Layouts.{pushed, SameListed, LaidOut, Laying}
use Rattle.comparison.specs.declared.layout.Layout.{Layout}
use Rattle.comparison.specs.declared.reach.Reach.{Reach}
use Rattle.comparison.proofs.Pairs.{hits_in, take_listed}
use Rattle.comparison.proofs.Tables.{reached_more}

-- The places in front of a new step stay as they are.

pub run_kept : (steps : List (ℕ × ℕ)) (i : ℕ) (x : ℕ × ℕ) (a n : ℕ) → a + n ≤ i → map (λ (k : ℕ). get_or (set steps i x) k (0, 0)) (range_with_len a n) ≡ map (λ (k : ℕ). get_or steps k (0, 0)) (range_with_len a n)
run_kept steps i x a zero l = refl
run_kept steps i x a (suc n) l =
    let ne : a ≢ i = omega arith in
    ap₂ (λ (y : ℕ × ℕ) (ys : List (ℕ × ℕ)). y ∷ ys) (get_or-set_other steps i a x (0, 0) ne) (run_kept steps i x (a + 1) n (omega arith))

pub run_more : (steps : List (ℕ × ℕ)) (i : ℕ) (x : ℕ × ℕ) (a : ℕ) → a ≤ i → i < length steps → map (λ (k : ℕ). get_or (set steps i x) k (0, 0)) (range_with_len a (i + 1 - a)) ≡ map (λ (k : ℕ). get_or steps k (0, 0)) (range_with_len a (i - a)) ++ x ∷ []
run_more steps i x a l room =
    let n : i + 1 - a ≡ i - a + 1 = omega arith in
    let at : a + (i - a) ≡ i = omega arith in
    ap (λ (k : ℕ). map (λ (j : ℕ). get_or (set steps i x) j (0, 0)) (range_with_len a k)) n
    ∙ (map-range_with_len_more (λ (j : ℕ). get_or (set steps i x) j (0, 0)) a (i - a) i at
    ∙ ap₂ (λ (ys : List (ℕ × ℕ)) (y : ℕ × ℕ). ys ++ y ∷ []) (run_kept steps i x a (i - a) (omega arith)) (get_or-set_same steps i x (0, 0) room))

-- Lists with the same steps.

-- one step more of both
pub same_more : (xs ys : List (ℕ × ℕ)) (x : ℕ × ℕ) → SameListed xs ys → SameListed (xs ++ x ∷ []) (ys ++ x ∷ [])
same_more xs ys x h = record { to = λ a t i. on xs ys (a, t) (h.to a t) i; back = λ a t i. on ys xs (a, t) (h.back a t) i }
  where
    on : (us vs : List (ℕ × ℕ)) (y : ℕ × ℕ) → (In y us → In y vs) → In y (us ++ x ∷ []) → In y (vs ++ x ∷ [])
    on us vs y f i = ⊎_elim (λ k. in_left y vs (x ∷ []) (f k)) (λ k. in_right y vs (x ∷ []) k) (in_either y us (x ∷ []) i)

-- a step that is listed already
pub same_again : (xs ys : List (ℕ × ℕ)) (a t : ℕ) → In (a, t) xs → SameListed xs ys → SameListed (xs ++ (a, t) ∷ []) ys
same_again xs ys a t old h =
    record { to = λ b u i. h.to b u (⊎_elim (λ k. k) (λ k. ⊎_elim (λ e. subst (λ (v : ℕ × ℕ). In v xs) (sym e) old) (λ n. absurd n) k) (in_either (b, u) xs ((a, t) ∷ []) i)); back = λ b u i. in_left (b, u) xs ((a, t) ∷ []) (h.back b u i) }

-- One step more of state s.

pub pushed_below : (m : Meaning) (s : ℕ) (p : Layout) (x : ℕ × ℕ) → LaidOut m s p → p.used < 2048 → LaidOut m s (pushed p x)
pushed_below m s p x h room =
    record {
      ends_size = h.ends_size;
      runs_size = h.runs_size;
      steps_size = length-set p.laid.steps p.used x ∙ h.steps_size;
      states = h.states;
      room = omega arith;
      inside = λ t l. let i = h.inside t l in omega arith;
      ends = h.ends;
      steps = λ t l. subst (SameListed (m.steps t)) (sym (run_kept p.laid.steps p.used x (from p.laid t) (many p.laid t) (h.inside t l))) (h.steps t l);
    }

module _ (m : Meaning) (s i k a t : ℕ) (before after : Reach) (p : Layout) (h : Laying m s i k before p) (at : Some (a, t) ≡ slice_get (m.steps s) k) (act : a ≤ 63) (low : t < 256) where
  abbrev xs : List (ℕ × ℕ)
  xs = m.steps s

  -- a new one is laid behind the others
  pub lay_new : Put before a t true after → p.used < 2048 → Laying m s i (k + 1) after (pushed p (a, t))
  lay_new put room =
      let size = h.below.steps_size in
      let begun = h.begun in
      record {
        below = pushed_below m s p (a, t) h.below room;
        begun = omega arith;
        seen = reached_more (λ (u : ℕ). u) xs k a t before after true at low put h.seen;
        steps = subst (λ (ys : List (ℕ × ℕ)). SameListed ys (run (pushed p (a, t)).laid i (p.used + 1 - i))) (sym (take_listed xs k (a, t) at)) (subst (SameListed (take k xs ++ (a, t) ∷ [])) (sym (run_more p.laid.steps p.used (a, t) i begun (omega arith))) (same_more (take k xs) (run p.laid i (p.used - i)) (a, t) h.steps));
      }

  -- one that was seen is laid already
  pub lay_old : Put before a t false after → Laying m s i (k + 1) after p
  lay_old put =
      record {
        below = h.below;
        begun = h.begun;
        seen = reached_more (λ (u : ℕ). u) xs k a t before after false at low put h.seen;
        steps = subst (λ (ys : List (ℕ × ℕ)). SameListed ys (run p.laid i (p.used - i))) (sym (take_listed xs k (a, t) at)) (same_again (take k xs) (run p.laid i (p.used - i)) a t listed h.steps);
      }
    where
      listed : In (a, t) (take k xs)
      listed =
          let held : hits (λ (u : ℕ). u) a t (take k xs) ≡ true = sym (h.seen a t act low) ∙ not-false (holds before a t) (sym put.told) in
          let r = hits_in (λ (u : ℕ). u) a t (take k xs) held in
          subst (λ (v : ℕ). In (a, v) (take k xs)) r.2 r.1

-- All steps of state s.

abbrev pub closed : Layout → ℕ → Bool → Run → Layout
closed p s end r =
    record { laid = record { states = p.laid.states; ends = set p.laid.ends s end; runs = set p.laid.runs s r; steps = p.laid.steps }; used = p.used }

module _ (m : Meaning) (s i : ℕ) (p : Layout) (end : Bool) (few : s < 256) (begun : i ≤ p.used) (is : end ≡ m.ends s) (h : LaidOut m s p) (last : SameListed (m.steps s) (run p.laid i (p.used - i))) where
  abbrev here : Run
  here = record { from = i; count = p.used - i }

  run_kept_at : (t : ℕ) → t < s → run_at p.laid t ≡ run_at (closed p s end here).laid t
  run_kept_at t l = sym (get_or-set_other p.laid.runs s t here (record { from = 0; count = 0 }) (let ne : t ≢ s = omega arith in ne))

  run_here : here ≡ run_at (closed p s end here).laid s
  run_here = sym (get_or-set_same p.laid.runs s here (record { from = 0; count = 0 }) (let e = h.runs_size in omega arith))

  pub close_state : LaidOut m (s + 1) (closed p s end here)
  close_state =
      record {
        ends_size = length-set p.laid.ends s end ∙ h.ends_size;
        runs_size = length-set p.laid.runs s here ∙ h.runs_size;
        steps_size = h.steps_size;
        states = h.states;
        room = h.room;
        inside = below_more _ s (λ t l. subst (λ (r : Run). r.from + r.count ≤ p.used) (run_kept_at t l) (h.inside t l)) (subst (λ (r : Run). r.from + r.count ≤ p.used) run_here (omega arith));
        ends = below_more _ s (λ t l. get_or-set_other p.laid.ends s t end false (let ne : t ≢ s = omega arith in ne) ∙ h.ends t l) (get_or-set_same p.laid.ends s end false (let e = h.ends_size in omega arith) ∙ is);
        steps = below_more _ s (λ t l. subst (λ (r : Run). SameListed (m.steps t) (run p.laid r.from r.count)) (run_kept_at t l) (h.steps t l)) (subst (λ (r : Run). SameListed (m.steps s) (run p.laid r.from r.count)) run_here last);
      }
