-- The rounds: a falling chain of decidable equivalences.
use Rattle.std.proofs.Common.{◌≡◌, ℕ, zero, suc, ◌<◌, ◌≤◌, Bool, true, false, ◌&&◌, ◌⊎◌, List, [], ◌∷◌, Decides, sym, refl, ap, ◌∙◌, subst, inl, inr, ⊎_elim, arith}
use mathlib.Core.Bool.{beq}
use Rattle.std.proofs.lemmas.Bool.Decides.{Decides-eqb, Decides-and, Decides-or, Decides-like}
use Rattle.std.proofs.lemmas.Bool.{cases_lt, false≢true}
use Rattle.lts.specs.Meaning.{Meaning, In}
use Rattle.theory.specs.Bisimulation.{Answered, BisimulationOf, Passing}
use Rattle.theory.specs.Rounds.{Agree, meets, answered, agree, Closed, Stable}
use Rattle.theory.specs.Theorems.{AgreeFalls, AgreeReflexive, AgreeSymmetric, AgreeTransitive, AgreeDecided, BisimilarAgree, RelatedAgree, StableBisimulation, StableRelated, StableSame, StablePersists}
use Rattle.theory.proofs.Relations.{Decided, by_test, related_by, decides_self}

pub agree_reflexive : AgreeReflexive
agree_reflexive m zero s = refl
agree_reflexive m (suc k) s =
    (agree_reflexive m k s, λ a x i. (x, i, agree_reflexive m k x), λ a x i. (x, i, agree_reflexive m k x))

pub agree_symmetric : AgreeSymmetric
agree_symmetric m zero s t h = sym h
agree_symmetric m (suc k) s t h = (agree_symmetric m k s t h.0, h.2, h.1)

-- answers follow one another
answered_through : (xs ys zs : List (ℕ × ℕ)) (R S Z : ℕ → ℕ → Type 0) → ((s t u : ℕ) → R s t → S t u → Z s u) → Answered xs ys R → Answered ys zs S → Answered xs zs Z
answered_through xs ys zs R S Z j f g a s i =
    let y = f a s i in
    let z = g a y.0 y.1 in
    (z.0, z.1, j s y.0 z.0 y.2 z.2)

pub agree_transitive : AgreeTransitive
agree_transitive m zero s t u g h = g ∙ h
agree_transitive m (suc k) s t u g h =
    let through : (x y z : ℕ) → Agree m k x y → Agree m k y z → Agree m k x z = agree_transitive m k in
    (through s t u g.0 h.0, answered_through (m.steps s) (m.steps t) (m.steps u) _ _ _ through g.1 h.1, answered_through (m.steps u) (m.steps t) (m.steps s) _ _ _ through h.2 g.2)

pub agree_falls : AgreeFalls
agree_falls m j zero s t l h = let e : 0 ≡ j = omega arith in subst (λ (n : ℕ). Agree m n s t) e h
agree_falls m j (suc k) s t l h =
    ⊎_elim
    (λ (b : j < suc k). agree_falls m j k s t (omega arith) h.0)
    (λ (b : suc k ≤ j). let e : suc k ≡ j = omega arith in subst (λ (n : ℕ). Agree m n s t) e h)
    (cases_lt j (suc k))

-- The test decides the rounds.

decides_beq : (x y : Bool) → Decides (beq x y) (x ≡ y)
decides_beq true true = (λ _. refl, λ _. refl)
decides_beq true false = (λ e. sym e, λ e. sym e)
decides_beq false true = (λ e. e, λ e. e)
decides_beq false false = (λ _. refl, λ _. refl)

-- a step of ys answers x
abbrev Met : (ℕ → ℕ → Type 0) → List (ℕ × ℕ) → ℕ × ℕ → Type 0
Met S ys x = (t : ℕ) × In (x.0, t) ys × S x.1 t

module _ (R : ℕ → ℕ → Bool) (S : ℕ → ℕ → Type 0) (d : Decided R S) where
  decides_meets : (x : ℕ × ℕ) (ys : List (ℕ × ℕ)) → Decides (meets R x ys) (Met S ys x)
  decides_meets x [] = (λ e. absurd (false≢true e), λ h. absurd h.1)
  decides_meets x (y ∷ ys) =
      Decides-like (meets R x (y ∷ ys)) in_place found
      (Decides-or _ _ (Decides-and _ _ (Decides-eqb x.0 y.0) (d x.1 y.1)) (decides_meets x ys))
    where
      in_place : ((x.0 ≡ y.0) × S x.1 y.1) ⊎ Met S ys x → Met S (y ∷ ys) x
      in_place (inl h) = (y.1, inl (ap (λ (v : ℕ). (v, y.1)) h.0), h.1)
      in_place (inr h) = (h.0, inr h.1, h.2)

      found : Met S (y ∷ ys) x → ((x.0 ≡ y.0) × S x.1 y.1) ⊎ Met S ys x
      found h =
          ⊎_elim
          (λ e. inl (ap (λ (v : ℕ × ℕ). v.0) e, subst (S x.1) (ap (λ (v : ℕ × ℕ). v.1) e) h.2))
          (λ i. inr (h.0, i, h.2))
          h.1

  decides_answered : (xs ys : List (ℕ × ℕ)) → Decides (answered R xs ys) (Answered xs ys S)
  decides_answered [] ys = (λ _ a s i. absurd i, λ _. refl)
  decides_answered (x ∷ xs) ys =
      Decides-like (answered R (x ∷ xs) ys) each (λ f. (f x.0 x.1 (inl refl), λ a s i. f a s (inr i)))
      (Decides-and _ _ (decides_meets x ys) (decides_answered xs ys))
    where
      each : Met S ys x × Answered xs ys S → Answered (x ∷ xs) ys S
      each h a s i = ⊎_elim (λ e. subst (Met S ys) (sym e) h.0) (h.1 a s) i

pub agree_decided : AgreeDecided
agree_decided m zero s t = decides_beq (m.ends s) (m.ends t)
agree_decided m (suc k) s t =
    let there = decides_answered (agree m k) (Agree m k) (agree_decided m k) in
    Decides-like (agree m (suc k) s t) (λ h. (h.0, h.1.0, h.1.1)) (λ h. (h.0, (h.1, h.2)))
    (Decides-and _ _ (agree_decided m k s t) (Decides-and _ _ (there (m.steps s) (m.steps t)) (there (m.steps t) (m.steps s))))

-- Rounds against bisimulations.

pub bisimilar_agree : (R : ℕ → ℕ → Type 0) → BisimilarAgree R
bisimilar_agree R m zero s t b h = b.alike s t h
bisimilar_agree R m (suc k) s t b h =
    (bisimilar_agree R m k s t b h, λ a x i. let r = b.forth s t h a x i in (r.0, r.1, bisimilar_agree R m k x r.0 b r.2), λ a x i. let r = b.back s t h a x i in (r.0, r.1, agree_symmetric m k r.0 x (bisimilar_agree R m k r.0 x b r.2)))

pub related_agree : RelatedAgree
related_agree m k s t r = bisimilar_agree (Passing r.0) m k s t r.1 r.2

-- states of the set that agree
abbrev Live : Meaning → (ℕ → Bool) → ℕ → ℕ → ℕ → Type 0
Live m live k s t = (live s ≡ true) × ((live t ≡ true) × Agree m k s t)

live_decided : (m : Meaning) (live : ℕ → Bool) (k : ℕ) → Decided (λ s t. live s && (live t && agree m k s t)) (Live m live k)
live_decided m live k s t = Decides-and _ _ (decides_self (live s)) (Decides-and _ _ (decides_self (live t)) (agree_decided m k s t))

live_bisimulation : (m : Meaning) (live : ℕ → Bool) (k : ℕ) → Closed m live → Stable m live k → BisimulationOf m m (Live m live k)
live_bisimulation m live k closed stable =
    record {
      alike = λ s t h. agree_falls m 0 k s t (omega arith) h.1.1;
      forth = λ s t h a x i.
          let r = ((stable s t h.0 h.1.0).0 h.1.1).1 a x i in
          (r.0, r.1, (closed.stays s a x h.0 i, (closed.stays t a r.0 h.1.0 r.1, r.2)));
      back = λ s t h a x i.
          let r = ((stable s t h.0 h.1.0).0 h.1.1).2 a x i in
          (r.0, r.1, (closed.stays s a r.0 h.0 r.1, (closed.stays t a x h.1.0 i, agree_symmetric m k x r.0 r.2)));
    }

pub stable_bisimulation : StableBisimulation
stable_bisimulation m live k c z = by_test m m _ (Live m live k) (live_decided m live k) (live_bisimulation m live k c z)

pub stable_related : StableRelated
stable_related m live k s t c z x y =
    (λ h. related_by m m _ (Live m live k) (live_decided m live k) (live_bisimulation m live k c z) s t (x, (y, h)), related_agree m k s t)

pub stable_same : StableSame
stable_same m live k j s t c z l x y =
    (λ h. bisimilar_agree (Live m live k) m j s t (live_bisimulation m live k c z) (x, (y, h)), agree_falls m k j s t l)

pub stable_persists : StablePersists
stable_persists m live k j c z l s t x y =
    (λ h. (stable_same m live k (suc j) s t c z (omega arith) x y).0 (agree_falls m k j s t l h), λ h. h.0)
