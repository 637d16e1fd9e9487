-- The laws between bisimulations, rounds, formulas and classes.
use Rattle.std.specs.Prelude.{◌≡◌, ℕ, suc, ◌+◌, ◌-◌, ◌<◌, ◌≤◌, Bool, true, ◌&&◌, ◌↔◌, Decides}
use Rattle.lts.specs.Meaning.{Meaning, Lawful}
use Rattle.theory.specs.Bisimulation.{BisimulationOf, Bisimulation, Related, Inside}
use Rattle.theory.specs.Rounds.{Agree, agree, Closed, all_of, Stable, Rounds}
use Rattle.theory.specs.Formulas.{Formula, Holds, depth, Separates}
use Rattle.theory.specs.Classes.{size, Numbering, Classes}
use Rattle.theory.specs.Joins.{Joins}

-- Related states.

-- a state is related to itself
abbrev pub RelatedReflexive : Type 0
RelatedReflexive = (m : Meaning) (s : ℕ) → Related m m s s

-- related states are related the other way round
abbrev pub RelatedSymmetric : Type 0
RelatedSymmetric = (p q : Meaning) (s t : ℕ) → Related p q s t → Related q p t s

-- states related to one state of a procedure, whose steps stay inside it, are related
abbrev pub RelatedTransitive : Type 0
RelatedTransitive =
    (p q r : Meaning) (s t u : ℕ) → Inside q → t < q.count → Related p q s t → Related q r t u → Related p r s u

-- what a bisimulation of any kind relates, one that is given by a test relates too
abbrev pub AnyRelated : (ℕ → ℕ → Type 0) → Type 0
AnyRelated R =
    (p q : Meaning) (s t : ℕ) → Inside p → Inside q → s < p.count → t < q.count → BisimulationOf p q R → R s t → Related p q s t

-- so where no test relates two states, no relation of any kind does
abbrev pub Unrelated : (ℕ → ℕ → Type 0) → Type 0
Unrelated R =
    (p q : Meaning) (s t : ℕ) → Inside p → Inside q → s < p.count → t < q.count → (Related p q s t → ⊥) → BisimulationOf p q R → R s t → ⊥

-- Rounds.

-- what agrees at a round agrees at every round before it
abbrev pub AgreeFalls : Type 0
AgreeFalls = (m : Meaning) (j k s t : ℕ) → j ≤ k → Agree m k s t → Agree m j s t

-- to agree at a round is an equivalence
abbrev pub AgreeReflexive : Type 0
AgreeReflexive = (m : Meaning) (k s : ℕ) → Agree m k s s

abbrev pub AgreeSymmetric : Type 0
AgreeSymmetric = (m : Meaning) (k s t : ℕ) → Agree m k s t → Agree m k t s

abbrev pub AgreeTransitive : Type 0
AgreeTransitive = (m : Meaning) (k s t u : ℕ) → Agree m k s t → Agree m k t u → Agree m k s u

-- the computed test is true exactly where two states agree
abbrev pub AgreeDecided : Type 0
AgreeDecided = (m : Meaning) (k s t : ℕ) → Decides (agree m k s t) (Agree m k s t)

-- Rounds against bisimulations.

-- what a bisimulation of any kind relates agrees at every round
abbrev pub BisimilarAgree : (ℕ → ℕ → Type 0) → Type 0
BisimilarAgree R = (m : Meaning) (k s t : ℕ) → BisimulationOf m m R → R s t → Agree m k s t

-- related states agree at every round
abbrev pub RelatedAgree : Type 0
RelatedAgree = (m : Meaning) (k s t : ℕ) → Related m m s t → Agree m k s t

-- to agree at a stable round is itself a bisimulation on the set
abbrev pub StableBisimulation : Type 0
StableBisimulation =
    (m : Meaning) (live : ℕ → Bool) (k : ℕ) → Closed m live → Stable m live k → Bisimulation m m (λ s t. live s && (live t && agree m k s t))

-- so states of the set agree at a stable round exactly where some bisimulation relates them
abbrev pub StableRelated : Type 0
StableRelated =
    (m : Meaning) (live : ℕ → Bool) (k s t : ℕ) → Closed m live → Stable m live k → live s ≡ true → live t ≡ true → Agree m k s t ↔ Related m m s t

-- from a stable round on, all rounds are stable
abbrev pub StablePersists : Type 0
StablePersists = (m : Meaning) (live : ℕ → Bool) (k j : ℕ) → Closed m live → Stable m live k → k ≤ j → Stable m live j

-- and agree on the same pairs of the set
abbrev pub StableSame : Type 0
StableSame =
    (m : Meaning) (live : ℕ → Bool) (k j s t : ℕ) → Closed m live → Stable m live k → k ≤ j → live s ≡ true → live t ≡ true → Agree m k s t ↔ Agree m j s t

-- a set of N states has a least stable round, and it is at most N - 1
abbrev pub RoundsExist : Type 0
RoundsExist =
    (m : Meaning) (live : ℕ → Bool) → Closed m live → 1 ≤ size m live → (r : ℕ) × Rounds m live r × (r ≤ size m live - 1)

-- there is one least stable round
abbrev pub RoundsDetermined : Type 0
RoundsDetermined = (m : Meaning) (live : ℕ → Bool) (r r' : ℕ) → Rounds m live r → Rounds m live r' → r ≡ r'

-- The set of all states.

-- the steps of a lawful procedure lead to its states
abbrev pub LawfulInside : Type 0
LawfulInside = (most : ℕ) (m : Meaning) → Lawful most m → Inside m

-- then no step leaves the set of all states
abbrev pub AllClosed : Type 0
AllClosed = (m : Meaning) → Inside m → Closed m (all_of m)

-- which has as many states as the procedure
abbrev pub AllCounted : Type 0
AllCounted = (m : Meaning) → size m (all_of m) ≡ m.count

-- Two procedures side by side.

-- their states are related exactly where they are related in the whole
abbrev pub JoinedRelated : Type 0
JoinedRelated =
    (p q m : Meaning) (s t : ℕ) → Joins p q m → Inside p → Inside q → s < p.count → t < q.count → Related p q s t ↔ Related m m s (p.count + t)

-- a formula holds at a state of the left one as it does in the whole
abbrev pub JoinedLeft : Type 0
JoinedLeft =
    (p q m : Meaning) (s : ℕ) → Joins p q m → Inside p → s < p.count → (f : Formula) → Holds p s f ↔ Holds m s f

-- and so at a state of the right one
abbrev pub JoinedRight : Type 0
JoinedRight =
    (p q m : Meaning) (t : ℕ) → Joins p q m → Inside q → t < q.count → (f : Formula) → Holds q t f ↔ Holds m (p.count + t) f

-- so it separates their states exactly where it separates them in the whole
abbrev pub JoinedSeparates : Type 0
JoinedSeparates =
    (p q m : Meaning) (s t : ℕ) → Joins p q m → Inside p → Inside q → s < p.count → t < q.count → (f : Formula) → Separates p q s t f ↔ Separates m m s (p.count + t) f

-- Formulas.

-- what a bisimulation of any kind relates satisfies the same formulas
abbrev pub BisimilarFormulas : (ℕ → ℕ → Type 0) → Type 0
BisimilarFormulas R =
    (p q : Meaning) (s t : ℕ) → BisimulationOf p q R → R s t → (f : Formula) → Holds p s f ↔ Holds q t f

-- related states satisfy the same formulas
abbrev pub RelatedFormulas : Type 0
RelatedFormulas = (p q : Meaning) (s t : ℕ) → Related p q s t → (f : Formula) → Holds p s f ↔ Holds q t f

-- a separated pair is related by no relation of any kind, decidable or not
abbrev pub SeparatedUnrelated : (ℕ → ℕ → Type 0) → Type 0
SeparatedUnrelated R =
    (p q : Meaning) (s t : ℕ) (f : Formula) → Separates p q s t f → BisimulationOf p q R → R s t → ⊥

-- states that agree at round k satisfy the same formulas of depth at most k
abbrev pub AgreeFormulas : Type 0
AgreeFormulas =
    (m : Meaning) (k s t : ℕ) → Agree m k s t → (f : Formula) → depth f ≤ k → Holds m s f ↔ Holds m t f

-- a separated pair disagrees at the round of the formula's depth
abbrev pub SeparatedDisagree : Type 0
SeparatedDisagree = (m : Meaning) (s t : ℕ) (f : Formula) → Separates m m s t f → Agree m (depth f) s t → ⊥

-- so where two states agree at every round below d, no separating formula is shallower than d
abbrev pub SeparatedDepth : Type 0
SeparatedDepth =
    (m : Meaning) (d s t : ℕ) (f : Formula) → ((k : ℕ) → k < d → Agree m k s t) → Separates m m s t f → d ≤ depth f

-- Classes.

-- the classes of each round can be numbered
abbrev pub NumberingExists : Type 0
NumberingExists =
    (m : Meaning) (live : ℕ → Bool) (k : ℕ) → Closed m live → (K : ℕ) × (n : ℕ → ℕ) × Numbering m live k K n

-- and so can the classes themselves
abbrev pub ClassesExist : Type 0
ClassesExist =
    (m : Meaning) (live : ℕ → Bool) → Closed m live → 1 ≤ size m live → (K : ℕ) × (n : ℕ → ℕ) × Classes m live K n

-- the number of classes is determined: at one round,
abbrev pub RoundCount : Type 0
RoundCount =
    (m : Meaning) (live : ℕ → Bool) (k K L : ℕ) (n o : ℕ → ℕ) → Closed m live → Numbering m live k K n → Numbering m live k L o → K ≡ L

-- between stable rounds,
abbrev pub StableCount : Type 0
StableCount =
    (m : Meaning) (live : ℕ → Bool) (j k K L : ℕ) (n o : ℕ → ℕ) → Closed m live → Stable m live j → Stable m live k → Numbering m live j K n → Numbering m live k L o → K ≡ L

-- and of the classes themselves
abbrev pub ClassCount : Type 0
ClassCount =
    (m : Meaning) (live : ℕ → Bool) (K L : ℕ) (n o : ℕ → ℕ) → Closed m live → Classes m live K n → Classes m live L o → K ≡ L

-- a numbering of a stable round numbers the classes
abbrev pub StableClasses : Type 0
StableClasses =
    (m : Meaning) (live : ℕ → Bool) (k K : ℕ) (n : ℕ → ℕ) → Closed m live → Stable m live k → Numbering m live k K n → Classes m live K n

-- there are no more classes than states
abbrev pub CountFew : Type 0
CountFew =
    (m : Meaning) (live : ℕ → Bool) (k K : ℕ) (n : ℕ → ℕ) → Closed m live → Numbering m live k K n → K ≤ size m live

-- the next round has as many classes or more
abbrev pub CountRises : Type 0
CountRises =
    (m : Meaning) (live : ℕ → Bool) (k K L : ℕ) (n o : ℕ → ℕ) → Closed m live → Numbering m live k K n → Numbering m live (suc k) L o → K ≤ L

-- and where it has as many, the round is stable
abbrev pub CountStable : Type 0
CountStable =
    (m : Meaning) (live : ℕ → Bool) (k K : ℕ) (n o : ℕ → ℕ) → Closed m live → Numbering m live k K n → Numbering m live (suc k) K o → Stable m live k
