-- What passes the test compares so.
use Rattle.std.proofs.Common.{◌≡◌, ℕ, suc, true, not, ◌&&◌, eqb, ◌↔◌, refl, subst, add-zero, arith}
use Rattle.std.proofs.lemmas.Bool.{and_parts, eqb-true, eq-eqb, lt-ltb, not-true, both_ways}
use Rattle.std.proofs.lemmas.Bool.Decides.{not_from_Decides}
use Rattle.lts.specs.Meaning.{Meaning}
use Rattle.lts.specs.Joined.{joined}
use Rattle.lts.specs.Laws.Joined.{left_ends, left_steps, right_ends, right_steps}
use Rattle.theory.specs.Bisimulation.{Related}
use Rattle.theory.specs.Rounds.{Agree, agree, Closed, all_of, Stable, Rounds}
use Rattle.theory.specs.Classes.{Numbering, Classes}
use Rattle.theory.specs.Joins.{Joins}
use Rattle.theory.proofs.Rounds.{agree_decided, related_agree, stable_related}
use Rattle.theory.proofs.Joining.{joined_inside, joined_related}
use Rattle.theory.proofs.Firsts.{rank, by_rank}
use Rattle.theory.proofs.Stability.{agree_equivalence, all_closed, stable_count, stable_classes, round_stable}
use Rattle.pairs.specs.Rows.{Verdict, same, different, Told, Compares}
use Rattle.pairs.proofs.Testing.{all_below, passes, sound, sound_start, sound_inside, classes_at, settles, tells, compares}

joined_joins : (p q : Meaning) → Joins p q (joined p q)
joined_joins p q =
    record { counts = refl; left_ends = left_ends p q; left_steps = left_steps p q; right_ends = λ t _. right_ends p q t; right_steps = λ t _. right_steps p q t }

-- Classes and rounds.
module _ (m : Meaning) (closed : Closed m (all_of m)) where
  numbered : (k : ℕ) → Numbering m (all_of m) k (classes_at m k) (rank (all_of m) (agree m k))
  numbered k = by_rank (all_of m) m.count closed.inside (agree m k) (Agree m k) (agree_decided m k) (agree_equivalence m k)

  numbered_as : (k K : ℕ) → eqb (classes_at m k) K ≡ true → Numbering m (all_of m) k K (rank (all_of m) (agree m k))
  numbered_as k K e =
      subst (λ (n : ℕ). Numbering m (all_of m) k n (rank (all_of m) (agree m k))) (eqb-true (classes_at m k) K e) (numbered k)

  -- a stable round before r would have as many classes as r
  unstable : (k r K : ℕ) (n : ℕ → ℕ) → Stable m (all_of m) r → Numbering m (all_of m) r K n → not (eqb (classes_at m k) K) ≡ true → Stable m (all_of m) k → ⊥
  unstable k r K n z x e y =
      let as_many = stable_count m (all_of m) k r (classes_at m k) K _ n closed y z (numbered k) x in
      both_ways _ (not-true _ e) (eq-eqb (classes_at m k) K as_many)

  settled : (K r : ℕ) → settles m K r ≡ true → Rounds m (all_of m) r × ((n : ℕ → ℕ) × Classes m (all_of m) K n)
  settled K r e =
      let h = and_parts (all_below (λ k. not (eqb (classes_at m k) K)) r) _ e in
      let g = and_parts (eqb (classes_at m r) K) (eqb (classes_at m (suc r)) K) h.1 in
      let x = numbered_as r K g.0 in
      let z = round_stable m (all_of m) r K _ _ closed x (numbered_as (suc r) K g.1) in
      (record { stable = z; least = λ k l. unstable k r K _ z x (passes _ r h.0 k l) }, (rank (all_of m) (agree m r), stable_classes m (all_of m) r K _ closed z x))

-- two sound procedures side by side
module _ (p q : Meaning) (sound_p : sound p ≡ true) (sound_q : sound q ≡ true) where
  joined_closed : Closed (joined p q) (all_of (joined p q))
  joined_closed =
      all_closed (joined p q) (joined_inside p q (joined p q) (joined_joins p q) (sound_inside p sound_p) (sound_inside q sound_q))

  starts_related : Related p q 0 0 ↔ Related (joined p q) (joined p q) 0 p.count
  starts_related =
      let j = joined_related p q (joined p q) 0 0 (joined_joins p q) (sound_inside p sound_p) (sound_inside q sound_q) (sound_start p sound_p) (sound_start q sound_q) in
      rw add-zero at j

  told : (r : ℕ) → Stable (joined p q) (all_of (joined p q)) r → (verdict : Verdict) → tells (joined p q) p.count r verdict ≡ true → Told p q verdict
  told r stable same e =
      let m = joined p q in
      let l = sound_start p sound_p in
      let k = sound_start q sound_q in
      let z = stable_related m (all_of m) r 0 p.count joined_closed stable (lt-ltb 0 m.count (omega arith)) (lt-ltb p.count m.count (omega arith)) in
      starts_related.1 (z.0 ((agree_decided m r 0 p.count).0 e))
  told r stable (different d) e =
      let m = joined p q in
      let h = and_parts (all_below (λ k. agree m k 0 p.count) d) _ e in
      let apart : Agree m d 0 p.count → ⊥ = not_from_Decides _ (agree_decided m d 0 p.count) (not-true _ h.1) in
      (λ x. apart (related_agree m d 0 p.count (starts_related.0 x)), λ k l. (agree_decided m k 0 p.count).0 (passes _ d h.0 k l), apart)

pub compared : (p q : Meaning) (verdict : Verdict) (K r : ℕ) → compares p q verdict K r ≡ true → Compares p q verdict K r
compared p q verdict K r e =
    let h = and_parts (sound p && sound q) _ e in
    let both = and_parts (sound p) (sound q) h.0 in
    let g = and_parts (settles (joined p q) K r) _ h.1 in
    let s = settled (joined p q) (joined_closed p q both.0 both.1) K r g.0 in
    record { told = told p q both.0 both.1 r s.0.stable verdict g.1; classes = s.1; rounds = s.0 }
