-- Bisimulations turned round and composed, and the tests that give them.
use Rattle.std.proofs.Common.{◌≡◌, ℕ, zero, suc, ◌<◌, Bool, true, false, ◌&&◌, ◌||◌, eqb, Decides, sym, refl, ap, ◌∙◌, subst}
use Rattle.std.proofs.lemmas.Bool.Decides.{Decides-eqb, Decides-and, Decides-below_or}
use Rattle.lts.specs.Meaning.{Meaning, In}
use Rattle.theory.specs.Bisimulation.{turned, BisimulationOf, Passing, Bisimulation, Related, Inside}
use Rattle.theory.specs.Theorems.{RelatedReflexive, RelatedSymmetric, RelatedTransitive, LawfulInside}

-- the test R decides the relation S
abbrev pub Decided : (ℕ → ℕ → Bool) → (ℕ → ℕ → Type 0) → Type 0
Decided R S = (s t : ℕ) → Decides (R s t) (S s t)

-- a bisimulation that a test decides is given by that test
pub by_test : (p q : Meaning) (R : ℕ → ℕ → Bool) (S : ℕ → ℕ → Type 0) → Decided R S → BisimulationOf p q S → Bisimulation p q R
by_test p q R S d b =
    record {
      alike = λ s t h. b.alike s t ((d s t).0 h);
      forth = λ s t h a x i. let r = b.forth s t ((d s t).0 h) a x i in (r.0, r.1, (d x r.0).1 r.2);
      back = λ s t h a x i. let r = b.back s t ((d s t).0 h) a x i in (r.0, r.1, (d r.0 x).1 r.2);
    }

pub related_by : (p q : Meaning) (R : ℕ → ℕ → Bool) (S : ℕ → ℕ → Type 0) → Decided R S → BisimulationOf p q S → (s t : ℕ) → S s t → Related p q s t
related_by p q R S d b s t h = (R, by_test p q R S d b, (d s t).1 h)

-- equality is a bisimulation
equality : (m : Meaning) → BisimulationOf m m (λ s t. s ≡ t)
equality m =
    record {
      alike = λ s t e. ap m.ends e;
      forth = λ s t e a x i. (x, subst (λ (v : ℕ). In (a, x) (m.steps v)) e i, refl);
      back = λ s t e a x i. (x, subst (λ (v : ℕ). In (a, x) (m.steps v)) (sym e) i, refl);
    }

pub related_reflexive : RelatedReflexive
related_reflexive m s = related_by m m eqb (λ x y. x ≡ y) Decides-eqb (equality m) s s refl

pub turn : (p q : Meaning) (R : ℕ → ℕ → Type 0) → BisimulationOf p q R → BisimulationOf q p (turned R)
turn p q R b = record { alike = λ t s h. sym (b.alike s t h); forth = λ t s h. b.back s t h; back = λ t s h. b.forth s t h }

pub related_symmetric : RelatedSymmetric
related_symmetric p q s t r = (λ y x. r.0 x y, turn p q (Passing r.0) r.1, r.2)

-- R and then S, over a state below n
abbrev pub Through : ℕ → (ℕ → ℕ → Type 0) → (ℕ → ℕ → Type 0) → ℕ → ℕ → Type 0
Through n R S s u = (t : ℕ) × (t < n) × (R s t × S t u)

pub compose : (p q r : Meaning) (R S : ℕ → ℕ → Type 0) → Inside q → BisimulationOf p q R → BisimulationOf q r S → BisimulationOf p r (Through q.count R S)
compose p q r R S in_q b c =
    record {
      alike = λ s u h. b.alike s h.0 h.2.0 ∙ c.alike h.0 u h.2.1;
      forth = λ s u h a x i.
          let y = b.forth s h.0 h.2.0 a x i in
          let z = c.forth h.0 u h.2.1 a y.0 y.1 in
          (z.0, z.1, (y.0, in_q h.0 a y.0 h.1 y.1, (y.2, z.2)));
      back = λ s u h a x i.
          let y = c.back h.0 u h.2.1 a x i in
          let z = b.back s h.0 h.2.0 a y.0 y.1 in
          (z.0, z.1, (y.0, in_q h.0 a y.0 h.1 y.1, (z.2, y.2)));
    }

-- some number below n passes the test
abbrev pub some_below : (ℕ → Bool) → ℕ → Bool
some_below p zero = false
some_below p (suc n) = p n || some_below p n

pub decides_some : (p : ℕ → Bool) (P : ℕ → Type 0) → ((k : ℕ) → Decides (p k) (P k)) → (n : ℕ) → Decides (some_below p n) ((k : ℕ) × (k < n) × P k)
decides_some p P each n = Decides-below_or p P (some_below p) each refl (λ _. refl) n

pub decides_self : (b : Bool) → Decides b (b ≡ true)
decides_self b = (λ e. e, λ e. e)

decides_through : (n : ℕ) (R S : ℕ → ℕ → Bool) → Decided (λ s u. some_below (λ t. R s t && S t u) n) (Through n (Passing R) (Passing S))
decides_through n R S s u =
    decides_some (λ t. R s t && S t u) (λ t. (R s t ≡ true) × (S t u ≡ true)) (λ t. Decides-and (R s t) (S t u) (decides_self (R s t)) (decides_self (S t u))) n

pub related_transitive : RelatedTransitive
related_transitive p q r s t u in_q l x y =
    let R = Passing x.0 in
    let S = Passing y.0 in
    let both = compose p q r R S in_q x.1 y.1 in
    related_by p r _ (Through q.count R S) (decides_through q.count x.0 y.0) both s u (t, l, (x.2, y.2))

pub lawful_inside : LawfulInside
lawful_inside most m h s a t _ i = h.aims s a t i
