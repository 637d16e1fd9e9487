-- What a bisimulation of any kind relates, one that is given by a test relates too.
use Rattle.std.proofs.Common.{ℕ, ◌+◌, ◌<◌, refl, zero-add, arith}
use Rattle.std.proofs.lemmas.Bool.{lt-ltb}
use Rattle.lts.specs.Meaning.{Meaning}
use Rattle.lts.specs.Joined.{joined}
use Rattle.theory.specs.Bisimulation.{turned, BisimulationOf, Related, Inside}
use Rattle.theory.specs.Rounds.{Agree, all_of}
use Rattle.theory.specs.Joins.{Joins}
use Rattle.theory.specs.Theorems.{AnyRelated, Unrelated}
use Rattle.theory.proofs.Relations.{turn, Through, compose}
use Rattle.theory.proofs.Rounds.{bisimilar_agree, stable_related}
use Rattle.theory.proofs.Joining.{Placed, left_placed, right_placed, joined_inside, joined_joins, joined_related}
use Rattle.theory.proofs.Stability.{rounds_exist, all_closed, all_counted}

module _ (R : ℕ → ℕ → Type 0) (p q m : Meaning) (j : Joins p q m) (in_p : Inside p) (in_q : Inside q) (b : BisimulationOf p q R) (s t : ℕ) (ls : s < p.count) (lt : t < q.count) (r : R s t) where
  -- R between the states as they stand in the whole
  whole : BisimulationOf m m (Through q.count (Through p.count (turned (Placed p.count 0)) R) (Placed q.count p.count))
  whole =
      compose m q m _ _ in_q (compose m p q _ _ in_p (turn p m _ (left_placed p q m j in_p)) b) (right_placed p q m j in_q)

  whole_agree : (k : ℕ) → Agree m k (0 + s) (p.count + t)
  whole_agree k = bisimilar_agree _ m k (0 + s) (p.count + t) whole (t, lt, ((s, ls, ((ls, refl), r)), (lt, refl)))

  some_relates : Related p q s t
  some_relates =
      let closed = all_closed m (joined_inside p q m j in_p in_q) in
      let n = all_counted m in
      let c = j.counts in
      let f = rounds_exist m (all_of m) closed (omega arith) in
      let h : Agree m f.0 s (p.count + t) = rw zero-add at (whole_agree f.0) in
      (joined_related p q m s t j in_p in_q ls lt).1 ((stable_related m (all_of m) f.0 s (p.count + t) closed f.1.stable (lt-ltb s m.count (omega arith)) (lt-ltb (p.count + t) m.count (omega arith))).0 h)

pub any_related : (R : ℕ → ℕ → Type 0) → AnyRelated R
any_related R p q s t in_p in_q ls lt b r = some_relates R p q (joined p q) (joined_joins p q) in_p in_q b s t ls lt r

pub unrelated : (R : ℕ → ℕ → Type 0) → Unrelated R
unrelated R p q s t in_p in_q ls lt none b r = none (any_related R p q s t in_p in_q ls lt b r)
