-- Stable rounds: a least one exists, and the number of classes tells it.
use Rattle.std.proofs.Common.{◌≡◌, ℕ, zero, suc, ◌-◌, ◌<◌, ◌≤◌, Bool, true, eqb, ⊎_elim, arith}
use mathlib.Core.Logic.Iff
use Rattle.std.proofs.lemmas.Bool.{eqb-true, eq-eqb, ltb-true, lt-ltb, cases_order}
use Rattle.lts.specs.Meaning.{Meaning}
use Rattle.theory.specs.Bisimulation.{Related}
use Rattle.theory.specs.Rounds.{Agree, agree, Closed, Stable, Rounds}
use Rattle.theory.specs.Classes.{size, Numbering}
use Rattle.theory.specs.Theorems.{RoundsExist, RoundsDetermined, AllClosed, AllCounted, RoundCount, StableCount, ClassCount, StableClasses, NumberingExists, ClassesExist, CountFew, CountRises, CountStable}
use Rattle.theory.proofs.Rounds.{agree_reflexive, agree_symmetric, agree_transitive, agree_decided, stable_related}
use Rattle.theory.proofs.Counting.{number_none, number_below, Least, find_least}
use Rattle.theory.proofs.Firsts.{Equivalence, firsts, rank, by_rank}
use Rattle.theory.proofs.Numberings.{count_few, count_rises, count_same, count_determined}

pub agree_equivalence : (m : Meaning) (k : ℕ) → Equivalence (agree m k)
agree_equivalence m k =
    record {
      reflexive = λ s. (agree_decided m k s s).1 (agree_reflexive m k s);
      symmetric = λ s t e. (agree_decided m k t s).1 (agree_symmetric m k s t ((agree_decided m k s t).0 e));
      transitive = λ s t u d e. (agree_decided m k s u).1 (agree_transitive m k s t u ((agree_decided m k s t).0 d) ((agree_decided m k t u).0 e));
    }

pub round_count : RoundCount
round_count m live k K L n o c x y = count_determined live m.count c.inside (Agree m k) (Agree m k) (λ s t _ _. Iff.rfl) K L n o x y

pub class_count : ClassCount
class_count m live K L n o c x y = count_determined live m.count c.inside (Related m m) (Related m m) (λ s t _ _. Iff.rfl) K L n o x y

pub stable_classes : StableClasses
stable_classes m live k K n c z x =
    record {
      below = x.below;
      occurs = x.occurs;
      equal = λ s t a b. Iff.trans (x.equal s t a b) (stable_related m live k s t c z a b);
    }

pub stable_count : StableCount
stable_count m live j k K L n o c zj zk x y = class_count m live K L n o c (stable_classes m live j K n c zj x) (stable_classes m live k L o c zk y)

pub round_few : CountFew
round_few m live k K n c x = count_few live m.count c.inside (Agree m k) K n x

pub round_rises : CountRises
round_rises m live k K L n o c x y =
    count_rises live m.count c.inside (Agree m k) (Agree m (suc k)) (λ s t _ _ h. h.0) K L n o x y

-- a next round with no more classes splits none
no_more : (m : Meaning) (live : ℕ → Bool) (k K L : ℕ) (n o : ℕ → ℕ) → Closed m live → Numbering m live k K n → Numbering m live (suc k) L o → L ≤ K → Stable m live k
no_more m live k K L n o c x y l s t a b =
    (count_same live m.count c.inside (Agree m k) (Agree m (suc k)) (λ s t _ _ h. h.0) K L n o x y l s t a b, λ h. h.0)

pub round_stable : CountStable
round_stable m live k K n o c x y = no_more m live k K K n o c x y (omega arith)

-- how many classes round k has
classes : Meaning → (ℕ → Bool) → ℕ → ℕ
classes m live k = firsts live (agree m k) m.count

-- rounds k and k + 1 have as many classes
abbrev level : Meaning → (ℕ → Bool) → ℕ → Bool
level m live k = eqb (classes m live k) (classes m live (suc k))

module _ (m : Meaning) (live : ℕ → Bool) (closed : Closed m live) where
  numbered : (k : ℕ) → Numbering m live k (classes m live k) (rank live (agree m k))
  unfolding classes
  numbered k = by_rank live m.count closed.inside (agree m k) (Agree m k) (agree_decided m k) (agree_equivalence m k)

  classes_rise : (k : ℕ) → classes m live k ≤ classes m live (suc k)
  classes_rise k = round_rises m live k _ _ _ _ closed (numbered k) (numbered (suc k))

  stable_level : (k : ℕ) → Stable m live k → level m live k ≡ true
  stable_level k stable =
      eq-eqb (classes m live k) (classes m live (suc k)) (count_determined live m.count closed.inside (Agree m k) (Agree m (suc k)) stable _ _ _ _ (numbered k) (numbered (suc k)))

  level_stable : (k : ℕ) → level m live k ≡ true → Stable m live k
  level_stable k e =
      let same = eqb-true (classes m live k) (classes m live (suc k)) e in
      no_more m live k _ _ _ _ closed (numbered k) (numbered (suc k)) (omega arith)

  -- a round that splits a class has one more
  grows : (n : ℕ) → 1 ≤ size m live → ((j : ℕ) → j < n → level m live j ≡ true → ⊥) → suc n ≤ classes m live n
  grows zero some none = ⊎_elim (λ r. omega (arith, (numbered 0).below r.0 r.2.0)) (λ empty. omega (arith, number_none live m.count empty)) (find_least live m.count)
  grows (suc n) some none =
      let before = grows n some (λ j l. none j (omega arith)) in
      let up = classes_rise n in
      let other : classes m live n ≡ classes m live (suc n) → ⊥ = λ e. none n (omega arith) (eq-eqb (classes m live n) (classes m live (suc n)) e) in
      omega arith

pub rounds_exist : RoundsExist
rounds_exist m live closed some = ⊎_elim found missing (find_least (level m live) (size m live))
  where
    found : (k : ℕ) × (k < size m live) × Least (level m live) k → (r : ℕ) × Rounds m live r × (r ≤ size m live - 1)
    found r =
        (r.0, record { stable = level_stable m live closed r.0 r.2.0; least = λ j l s. r.2.1 j l (stable_level m live closed j s) }, omega arith)

    missing : ((j : ℕ) → j < size m live → level m live j ≡ true → ⊥) → (r : ℕ) × Rounds m live r × (r ≤ size m live - 1)
    missing none =
        let n = size m live in
        let b : ⊥ = omega (arith, grows m live closed n some none, round_few m live n _ _ closed (numbered m live closed n)) in
        absurd b

pub rounds_determined : RoundsDetermined
rounds_determined m live r r' x y =
    ⊎_elim (λ e. e)
    (λ h. ⊎_elim (λ (l : r < r'). absurd (y.least r l x.stable)) (λ (l : r' < r). absurd (x.least r' l y.stable)) h)
    (cases_order r r')

pub all_closed : AllClosed
all_closed m in_m =
    record { inside = λ s e. ltb-true s m.count e; stays = λ s a t e i. lt-ltb t m.count (in_m s a t (ltb-true s m.count e) i) }

pub all_counted : AllCounted
all_counted m = number_below m.count m.count (omega arith)

pub numbering_exists : NumberingExists
numbering_exists m live k closed = (classes m live k, rank live (agree m k), numbered m live closed k)

pub classes_exist : ClassesExist
classes_exist m live closed some =
    let r = rounds_exist m live closed some in
    let x = numbered m live closed r.0 in
    (classes m live r.0, rank live (agree m r.0), stable_classes m live r.0 _ _ closed r.1.stable x)
