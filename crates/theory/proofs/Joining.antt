-- Two procedures side by side: each is related to the whole by where its states stand there.
use Rattle.std.proofs.Common.{◌≡◌, ℕ, ◌+◌, ◌-◌, ◌<◌, ◌≤◌, ◌&&◌, eqb, ltb, List, [], ◌∷◌, map, sym, refl, ap, ◌∙◌, subst, ap₂, ⊎_elim, zero-add, arith}
use mathlib.Core.Logic.Iff
use Rattle.std.proofs.lemmas.Bool.Decides.{Decides-eqb, Decides-ltb, Decides-and}
use Rattle.std.proofs.lemmas.Bool.{cases_lt}
use Rattle.lts.specs.Meaning.{Meaning, In}
use Rattle.lts.specs.Joined.{raised, joined}
use Rattle.lts.specs.Laws.Member.{in_map, from_map}
use Rattle.lts.specs.Laws.Joined as beside
use Rattle.theory.specs.Bisimulation.{BisimulationOf, Related, Inside}
use Rattle.theory.specs.Joins.{Joins}
use Rattle.theory.specs.Theorems.{JoinedRelated, JoinedLeft, JoinedRight, JoinedSeparates}
use Rattle.theory.proofs.Relations.{Decided, related_by, related_symmetric, related_transitive}
use Rattle.theory.proofs.Formulas.{related_formulas, separates_like}

-- state s, below n, stands at place k + s
abbrev pub Placed : ℕ → ℕ → ℕ → ℕ → Type 0
Placed n k s x = (s < n) × (k + s ≡ x)

placed_decided : (n k : ℕ) → Decided (λ s x. ltb s n && eqb (k + s) x) (Placed n k)
placed_decided n k s x = Decides-and _ _ (Decides-ltb s n) (Decides-eqb (k + s) x)

-- a procedure whose states stand in m from place k on, with their ends and steps
module _ (p m : Meaning) (k : ℕ) (in_p : Inside p) (ends : (s : ℕ) → s < p.count → m.ends (k + s) ≡ p.ends s) (steps : (s : ℕ) → s < p.count → m.steps (k + s) ≡ map (raised k) (p.steps s)) where
  steps_at : (s x : ℕ) → Placed p.count k s x → m.steps x ≡ map (raised k) (p.steps s)
  steps_at s x h = ap m.steps (sym h.1) ∙ steps s h.0

  placed_bisimulation : BisimulationOf p m (Placed p.count k)
  placed_bisimulation =
      record {
        alike = λ s x h. sym (ends s h.0) ∙ ap m.ends h.1;
        forth = λ s x h a y i.
            (k + y, subst (In (a, k + y)) (sym (steps_at s x h)) (in_map (raised k) (a, y) (p.steps s) i), (in_p s a y h.0 i, refl));
        back = λ s x h a y i.
            let r = from_map (raised k) (a, y) (p.steps s) (subst (In (a, y)) (steps_at s x h) i) in
            let e : r.0 ≡ (a, r.0.1) = ap (λ (v : ℕ × ℕ). (v.0, r.0.1)) (sym r.2) in
            let j : In (a, r.0.1) (p.steps s) = subst (λ (v : ℕ × ℕ). In v (p.steps s)) e r.1 in
            (r.0.1, j, (in_p s a r.0.1 h.0 j, ap (λ (v : ℕ × ℕ). v.1) (sym r.2)));
      }

placed_related : (n k : ℕ) (p m : Meaning) → BisimulationOf p m (Placed n k) → (s : ℕ) → s < n → Related p m s (k + s)
placed_related n k p m b s l = related_by p m _ (Placed n k) (placed_decided n k) b s (k + s) (l, refl)

raised_none : (xs : List (ℕ × ℕ)) → xs ≡ map (raised 0) xs
raised_none [] = refl
raised_none (x ∷ xs) = ap₂ (λ (v : ℕ) (vs : List (ℕ × ℕ)). (x.0, v) ∷ vs) (sym (zero-add x.1)) (raised_none xs)

-- the joined procedure is the two side by side
pub joined_joins : (p q : Meaning) → Joins p q (joined p q)
joined_joins p q =
    record { counts = refl; left_ends = beside.left_ends p q; left_steps = beside.left_steps p q; right_ends = λ t _. beside.right_ends p q t; right_steps = λ t _. beside.right_steps p q t }

module _ (p q m : Meaning) (j : Joins p q m) where
  left_ends : (s : ℕ) → s < p.count → m.ends (0 + s) ≡ p.ends s
  left_ends s l = ap m.ends (zero-add s) ∙ j.left_ends s l

  left_steps : (s : ℕ) → s < p.count → m.steps (0 + s) ≡ map (raised 0) (p.steps s)
  left_steps s l = ap m.steps (zero-add s) ∙ (j.left_steps s l ∙ raised_none (p.steps s))

  pub left_placed : Inside p → BisimulationOf p m (Placed p.count 0)
  left_placed in_p = placed_bisimulation p m 0 in_p left_ends left_steps

  pub right_placed : Inside q → BisimulationOf q m (Placed q.count p.count)
  right_placed in_q = placed_bisimulation q m p.count in_q j.right_ends j.right_steps

  pub left_related : Inside p → (s : ℕ) → s < p.count → Related p m s s
  left_related in_p s l = let r = placed_related p.count 0 p m (left_placed in_p) s l in rw zero-add at r

  pub right_related : Inside q → (t : ℕ) → t < q.count → Related q m t (p.count + t)
  right_related in_q = placed_related q.count p.count q m (right_placed in_q)

pub joined_left : JoinedLeft
joined_left p q m s j in_p l = related_formulas p m s s (left_related p q m j in_p s l)

pub joined_right : JoinedRight
joined_right p q m t j in_q l = related_formulas q m t (p.count + t) (right_related p q m j in_q t l)

pub joined_separates : JoinedSeparates
joined_separates p q m s t j in_p in_q ls lt f =
    let x = joined_left p q m s j in_p ls f in
    let y = joined_right p q m t j in_q lt f in
    (separates_like f p q m m s t s (p.count + t) x y, separates_like f m m p q s (p.count + t) s t (Iff.symm x) (Iff.symm y))

-- a step of the whole leads to a state of the whole
pub joined_inside : (p q m : Meaning) → Joins p q m → Inside p → Inside q → Inside m
joined_inside p q m j in_p in_q s a t l i = ⊎_elim left right (cases_lt s p.count)
  where
    n : m.count ≡ p.count + q.count
    n = j.counts

    left : s < p.count → t < m.count
    left h = let k = in_p s a t h (subst (In (a, t)) (j.left_steps s h) i) in omega arith

    right : p.count ≤ s → t < m.count
    right h =
        let u = s - p.count in
        let e : s ≡ p.count + u = omega arith in
        let h' : u < q.count = omega arith in
        let r = from_map (raised p.count) (a, t) (q.steps u) (subst (In (a, t)) (ap m.steps e ∙ j.right_steps u h') i) in
        let k = in_q u r.0.0 r.0.1 h' r.1 in
        let d : t ≡ p.count + r.0.1 = ap (λ (v : ℕ × ℕ). v.1) r.2 in
        omega arith

pub joined_related : JoinedRelated
joined_related p q m s t j in_p in_q ls lt =
    let left = left_related p q m j in_p s ls in
    let right = right_related p q m j in_q t lt in
    let in_m = joined_inside p q m j in_p in_q in
    let n = j.counts in (
      λ r. related_transitive m p m s s (p.count + t) in_p ls (related_symmetric p m s s left) (related_transitive p q m s t (p.count + t) in_q lt r right),
      λ r. related_transitive p m q s s t in_m (omega arith) left (related_transitive m m q s (p.count + t) t in_m (omega arith) r (related_symmetric q m t (p.count + t) right)),
    )
