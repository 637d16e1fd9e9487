-- Formulas against bisimulations and rounds.
use Rattle.std.proofs.Common.{ℕ, zero, suc, ◌<◌, ◌≤◌, ◌↔◌, sym, ◌∙◌, inl, inr, ⊎_elim, arith}
use Rattle.std.proofs.lemmas.Bool.{cases_lt}
use Rattle.lts.specs.Meaning.{Meaning}
use Rattle.theory.specs.Bisimulation.{turned, BisimulationOf, Passing}
use Rattle.theory.specs.Rounds.{Agree}
use Rattle.theory.specs.Formulas.{Formula, T, E, N, A, D, Holds, depth, Separates}
use Rattle.theory.specs.Theorems.{BisimilarFormulas, RelatedFormulas, SeparatedUnrelated, AgreeFormulas, SeparatedDisagree, SeparatedDepth}
use Rattle.theory.proofs.Relations.{turn}
use Rattle.theory.proofs.Rounds.{agree_falls, agree_symmetric}

keeps : (f : Formula) (p q : Meaning) (R : ℕ → ℕ → Type 0) → BisimulationOf p q R → (s t : ℕ) → R s t → Holds p s f → Holds q t f
keeps T p q R b s t r h = tt
keeps E p q R b s t r h = sym (b.alike s t r) ∙ h
keeps (N f) p q R b s t r h = λ x. h (keeps f q p (turned R) (turn p q R b) t s r x)
keeps (A f g) p q R b s t r h = (keeps f p q R b s t r h.0, keeps g p q R b s t r h.1)
keeps (D a f) p q R b s t r h =
    let y = b.forth s t r a h.0 h.1 in
    (y.0, y.1, keeps f p q R b h.0 y.0 y.2 h.2)

pub bisimilar_formulas : (R : ℕ → ℕ → Type 0) → BisimilarFormulas R
bisimilar_formulas R p q s t b r f = (keeps f p q R b s t r, keeps f q p (turned R) (turn p q R b) t s r)

pub related_formulas : RelatedFormulas
related_formulas p q s t r = bisimilar_formulas (Passing r.0) p q s t r.1 r.2

-- a formula that separates does not hold at both alike
not_alike : (p q : Meaning) (s t : ℕ) (f : Formula) → Separates p q s t f → Holds p s f ↔ Holds q t f → ⊥
not_alike p q s t f (inl h) same = h.1 (same.0 h.0)
not_alike p q s t f (inr h) same = h.1 (same.1 h.0)

-- it separates other states too where it holds as at these
pub separates_like : (f : Formula) (p q p' q' : Meaning) (s t s' t' : ℕ) → Holds p s f ↔ Holds p' s' f → Holds q t f ↔ Holds q' t' f → Separates p q s t f → Separates p' q' s' t' f
separates_like f p q p' q' s t s' t' x y (inl h) = inl (x.0 h.0, λ z. h.1 (y.1 z))
separates_like f p q p' q' s t s' t' x y (inr h) = inr (y.0 h.0, λ z. h.1 (x.1 z))

pub separated_unrelated : (R : ℕ → ℕ → Type 0) → SeparatedUnrelated R
separated_unrelated R p q s t f d b r = not_alike p q s t f d (bisimilar_formulas R p q s t b r f)

keeps_to : (f : Formula) (m : Meaning) (k s t : ℕ) → depth f ≤ k → Agree m k s t → Holds m s f → Holds m t f
keeps_to T m k s t l r h = tt
keeps_to E m k s t l r h = sym (agree_falls m 0 k s t (omega arith) r) ∙ h
keeps_to (N f) m k s t l r h = λ x. h (keeps_to f m k t s l (agree_symmetric m k s t r) x)
keeps_to (A f g) m k s t l r h = (keeps_to f m k s t (omega arith) r h.0, keeps_to g m k s t (omega arith) r h.1)
keeps_to (D a f) m zero s t l r h = let b : ⊥ = omega arith in absurd b
keeps_to (D a f) m (suc k) s t l r h =
    let y = r.1 a h.0 h.1 in
    (y.0, y.1, keeps_to f m k h.0 y.0 (omega arith) y.2 h.2)

pub agree_formulas : AgreeFormulas
agree_formulas m k s t r f l = (keeps_to f m k s t l r, keeps_to f m k t s l (agree_symmetric m k s t r))

pub separated_disagree : SeparatedDisagree
separated_disagree m s t f d r = not_alike m m s t f d (agree_formulas m (depth f) s t r f (omega arith))

pub separated_depth : SeparatedDepth
separated_depth m d s t f agreed z =
    ⊎_elim (λ (l : depth f < d). absurd (separated_disagree m s t f z (agreed (depth f) l))) (λ (l : d ≤ depth f). l) (cases_lt (depth f) d)
