-- The states of two procedures side by side, and that these keep the bounds of both.
use Rattle.std.specs.Prelude.{◌≡◌, ℕ, ◌+◌, ◌-◌, ◌<◌, ◌≤◌, false, [], map, length}
use Rattle.std.proofs.Common.{arith, ⊎_elim, sym, ap, subst, ◌∙◌}
use Rattle.std.proofs.lemmas.List.{length-map}
use Rattle.std.proofs.lemmas.Bool.{le-ltb, lt-ltb, cases_lt}
use Rattle.lts.specs.Meaning.{Meaning, Lawful, In}
use Rattle.lts.specs.Joined.{raised, joined}
use Rattle.lts.specs.Laws.Member.{in_map, from_map}

module _ (p q : Meaning) where
  -- a state of the left
  pub left_ends : (s : ℕ) → s < p.count → (joined p q).ends s ≡ p.ends s
  left_ends s l = rw (lt-ltb s p.count l)

  pub left_steps : (s : ℕ) → s < p.count → (joined p q).steps s ≡ p.steps s
  left_steps s l = rw (lt-ltb s p.count l)

  -- a state of the right, by its number among all
  pub ends_past : (s : ℕ) → p.count ≤ s → (joined p q).ends s ≡ q.ends (s - p.count)
  ends_past s l = rw (le-ltb s p.count l)

  pub steps_past : (s : ℕ) → p.count ≤ s → (joined p q).steps s ≡ map (raised p.count) (q.steps (s - p.count))
  steps_past s l = rw (le-ltb s p.count l)

  -- a state of the right, by its own number
  pub right_ends : (t : ℕ) → (joined p q).ends (p.count + t) ≡ q.ends t
  right_ends t = let e : p.count + t - p.count ≡ t = omega arith in ends_past (p.count + t) (omega arith) ∙ ap q.ends e

  pub right_steps : (t : ℕ) → (joined p q).steps (p.count + t) ≡ map (raised p.count) (q.steps t)
  right_steps t =
      let e : p.count + t - p.count ≡ t = omega arith in
      steps_past (p.count + t) (omega arith) ∙ ap (λ n. map (raised p.count) (q.steps n)) e

  -- a step of a joined state is one of its part's
  pub from_left : (s : ℕ) (x : ℕ × ℕ) → s < p.count → In x ((joined p q).steps s) → In x (p.steps s)
  from_left s x l h = rw (left_steps s l) at h

  pub to_left : (s : ℕ) (x : ℕ × ℕ) → s < p.count → In x (p.steps s) → In x ((joined p q).steps s)
  to_left s x l h = rw (left_steps s l) h

  pub from_past : (s a t : ℕ) → p.count ≤ s → In (a, t) ((joined p q).steps s) → (u : ℕ) × In (a, u) (q.steps (s - p.count)) × (t ≡ p.count + u)
  from_past s a t l h =
      let h' : In (a, t) (map (raised p.count) (q.steps (s - p.count))) = rw (steps_past s l) at h in
      let r = from_map (raised p.count) (a, t) (q.steps (s - p.count)) h' in
      let e : r.0.0 ≡ a = sym (ap (λ (v : ℕ × ℕ). v.0) r.2) in
      let i : In (a, r.0.1) (q.steps (s - p.count)) = subst (λ (b : ℕ). In (b, r.0.1) (q.steps (s - p.count))) e r.1 in
      (r.0.1, i, ap (λ (v : ℕ × ℕ). v.1) r.2)

  pub from_right : (s a t : ℕ) → In (a, t) ((joined p q).steps (p.count + s)) → (u : ℕ) × In (a, u) (q.steps s) × (t ≡ p.count + u)
  from_right s a t h =
      let r = from_past (p.count + s) a t (omega arith) h in
      let e : p.count + s - p.count ≡ s = omega arith in
      (r.0, rw e at r.1, r.2)

  pub to_right : (s a u : ℕ) → In (a, u) (q.steps s) → In (a, p.count + u) ((joined p q).steps (p.count + s))
  to_right s a u h = rw (right_steps s) (in_map (raised p.count) (a, u) (q.steps s) h)

module _ (p q : Meaning) (left : Lawful 128 p) (right : Lawful 128 q) where
  brief : (s : ℕ) → length ((joined p q).steps s) ≤ 4096
  brief s = ⊎_elim on_left on_right (cases_lt s p.count)
    where
      on_left : s < p.count → length ((joined p q).steps s) ≤ 4096
      on_left l = rw (left_steps p q s l) (left.short s)

      on_right : p.count ≤ s → length ((joined p q).steps s) ≤ 4096
      on_right l = rw (steps_past p q s l, length-map (q.steps (s - p.count)) (raised p.count)) (right.short (s - p.count))

  joined_acts : (s a t : ℕ) → In (a, t) ((joined p q).steps s) → a ≤ 63
  joined_acts s a t h = ⊎_elim on_left on_right (cases_lt s p.count)
    where
      on_left : s < p.count → a ≤ 63
      on_left l = left.acts s a t (from_left p q s (a, t) l h)

      on_right : p.count ≤ s → a ≤ 63
      on_right l = let r = from_past p q s a t l h in right.acts (s - p.count) a r.0 r.1

  joined_aims : (s a t : ℕ) → In (a, t) ((joined p q).steps s) → t < p.count + q.count
  joined_aims s a t h = ⊎_elim on_left on_right (cases_lt s p.count)
    where
      on_left : s < p.count → t < p.count + q.count
      on_left l = let k = left.aims s a t (from_left p q s (a, t) l h) in omega arith

      on_right : p.count ≤ s → t < p.count + q.count
      on_right l =
          let r = from_past p q s a t l h in
          let k = right.aims (s - p.count) a r.0 r.1 in
          omega arith

  no_joined_ends : (s : ℕ) → p.count + q.count ≤ s → (joined p q).ends s ≡ false
  no_joined_ends s l = ends_past p q s (omega arith) ∙ right.no_ends (s - p.count) (omega arith)

  no_joined_steps : (s : ℕ) → p.count + q.count ≤ s → (joined p q).steps s ≡ []
  no_joined_steps s l =
      steps_past p q s (omega arith) ∙ ap (map (raised p.count)) (right.no_steps (s - p.count) (omega arith))

  pub joined_lawful : Lawful 256 (joined p q)
  joined_lawful =
      let ls = left.some in
      let lf = left.few in
      let rf = right.few in
      record { some = omega arith; few = omega arith; no_ends = no_joined_ends; no_steps = no_joined_steps; short = brief; acts = joined_acts; aims = joined_aims }
