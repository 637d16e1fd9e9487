-- What a joined system answers for a state of the right, from the number n of states of the left.
use Rattle.std.proofs.Common.{◌≡◌, ℕ, ◌+◌, ◌-◌, ◌<◌, ◌≤◌, map, length, Some, None, sym, ap, ◌∙◌, arith}
use lib.ListN.{length-map}
use Rattle.std.specs.List.{slice_get}
use Rattle.lts.specs.Meaning.{Meaning, Lawful}
use Rattle.lts.specs.Joined.{raised, joined}
use Rattle.lts.specs.Laws.Joined.{steps_past}
use Rattle.lts.specs.Laws.Member.{nth_map, nth_map_none, listed_target}

module _ (p q : Meaning) (n s : ℕ) (all : n ≡ p.count) (past : n ≤ s) where
  steps_on : (joined p q).steps s ≡ map (raised n) (q.steps (s - n))
  steps_on = rw all (steps_past p q s (omega arith))

  pub count_on : length (q.steps (s - n)) ≡ length ((joined p q).steps s)
  count_on = sym (ap length steps_on ∙ length-map (q.steps (s - n)) (raised n))

  pub none_on : (k : ℕ) → None ≡ slice_get (q.steps (s - n)) k → None ≡ slice_get ((joined p q).steps s) k
  none_on k e = rw steps_on (sym (nth_map_none (raised n) (q.steps (s - n)) k (sym e)))

  module _ (k a t : ℕ) (at : Some (a, t) ≡ slice_get (q.steps (s - n)) k) where
    pub step_on : Some (a, n + t) ≡ slice_get ((joined p q).steps s) k
    step_on = rw steps_on (sym (nth_map (raised n) (q.steps (s - n)) k (a, t) (sym at)))

    pub target_on : Lawful 128 p → Lawful 128 q → n + t < 256
    target_on left right =
        let l = left.few in
        let r = right.few in
        let h = listed_target q right (s - n) k a t at in
        omega arith
