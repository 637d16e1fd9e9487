-- Two procedures with the same steps compare alike.
use Rattle.std.proofs.Common.{◌≡◌, ℕ, zero, suc, ◌+◌, ◌<◌, ◌≤◌, true, ltb, ◌↔◌, List, Some, None, Option, sym, ap, ◌∙◌, ⊎_elim, lit≤, arith}
use Rattle.std.proofs.lemmas.Bool.{le-ltb, lt-ltb, cases_lt}
use Rattle.lts.specs.Meaning.{Meaning, Lawful, In}
use Rattle.lts.specs.Laws.Member.{nth_in}
use Rattle.lts.proofs.Reading.{step_inside}
use Rattle.theory.specs.Rounds.{Agree, all_of, Stable}
use Rattle.theory.specs.Formulas.{Formula, T, E, N, A, D, Holds}
use Rattle.formulas.specs.Lines.{formula}
use Rattle.formulas.specs.declared.line.Line.{Line}
use Rattle.comparison.specs.Found.{Found}
use Rattle.lts.specs.Layout.{step_at, from, many, stored, Readable}
use Rattle.comparison.specs.Layouts.{SameListed, SameSteps, LaidOut}
use Rattle.comparison.specs.Outcomes.{Compares}
use Rattle.comparison.specs.declared.layout.Layout.{Layout}
use Rattle.comparison.specs.declared.outcome.Outcome.{Outcome}
use Rattle.comparison.specs.declared.starts.Apart.{Apart}

pub same_turned : (m n : Meaning) → SameSteps m n → SameSteps n m
same_turned m n h =
    record { counts = sym h.counts; ends = λ s. sym (h.ends s); steps = λ s. record { to = (h.steps s).back; back = (h.steps s).to } }

pub agree_same : (m n : Meaning) → SameSteps m n → (k s t : ℕ) → Agree m k s t → Agree n k s t
agree_same m n h zero s t e = sym (h.ends s) ∙ (e ∙ h.ends t)
agree_same m n h (suc k) s t e = (
  agree_same m n h k s t e.0,
  λ a u i. let r = e.1 a u ((h.steps s).back a u i) in (r.0, (h.steps t).to a r.0 r.1, agree_same m n h k u r.0 r.2),
  λ a u i. let r = e.2 a u ((h.steps t).back a u i) in (r.0, (h.steps s).to a r.0 r.1, agree_same m n h k u r.0 r.2),
)

pub holds_same : (m n : Meaning) → SameSteps m n → (f : Formula) (s : ℕ) → Holds m s f ↔ Holds n s f
holds_same m n h T s = (λ x. x, λ x. x)
holds_same m n h E s = (λ e. sym (h.ends s) ∙ e, λ e. h.ends s ∙ e)
holds_same m n h (N f) s = let r = holds_same m n h f s in (λ x y. x (r.1 y), λ x y. x (r.0 y))
holds_same m n h (A f g) s =
    let p = holds_same m n h f s in
    let q = holds_same m n h g s in
    (λ x. (p.0 x.0, q.0 x.1), λ x. (p.1 x.0, q.1 x.1))
holds_same m n h (D a f) s = (
  λ x. (x.0, (h.steps s).to a x.0 x.1, (holds_same m n h f x.0).0 x.2),
  λ x. (x.0, (h.steps s).back a x.0 x.1, (holds_same m n h f x.0).1 x.2),
)

module _ (m n : Meaning) (h : SameSteps m n) where
  agree_both : (k s t : ℕ) → Agree m k s t ↔ Agree n k s t
  agree_both k s t = (agree_same m n h k s t, agree_same n m (same_turned m n h) k s t)

  within : (s : ℕ) → all_of n s ≡ true → all_of m s ≡ true
  within s e = ap (λ (c : ℕ). ltb s c) h.counts ∙ e

  stable_same : (k : ℕ) → Stable m (all_of m) k → Stable n (all_of n) k
  stable_same k e s t x y =
      let r = e s t (within s x) (within t y) in
      (λ a. (agree_both (suc k) s t).0 (r.0 ((agree_both k s t).1 a)), λ a. (agree_both k s t).0 (r.1 ((agree_both (suc k) s t).1 a)))

  found_same : (q : ℕ) (lines : List Line) (k : ℕ) (told : Option Apart) → Found m q lines k told → Found n q lines k told
  found_same q lines k None e = λ j l. (agree_both j 0 q).0 (e j l)
  found_same q lines k (Some x) e =
      record {
        placed = e.placed;
        tells = ((holds_same m n h (formula lines x.line) 0).0 e.tells.0, λ z. e.tells.1 ((holds_same m n h (formula lines x.line) q).1 z));
        shallow = e.shallow;
        agreed = λ j l. (agree_both j 0 q).0 (e.agreed j l);
      }

pub compares_same : (m n : Meaning) → SameSteps m n → (q : ℕ) (lines : List Line) (o : Outcome) → Compares m q lines o → Compares n q lines o
compares_same m n h q lines o e =
    let back = same_turned m n h in
    record {
      size = e.size;
      numbering = record {
        below = λ s x. e.numbering.below s (within m n h s x);
        occurs = λ c l. let r = e.numbering.occurs c l in (r.0, within n m back r.0 r.1, r.2);
        equal = λ s t x y. let r = e.numbering.equal s t (within m n h s x) (within m n h t y) in (λ z. (agree_both m n h o.rounds s t).0 (r.0 z), λ z. r.1 ((agree_both m n h o.rounds s t).1 z));
      };
      rounds = record { stable = stable_same m n h o.rounds e.rounds.stable; least = λ k l s. e.rounds.least k l (stable_same n m back k s) };
      low = e.low;
      well = e.well;
      few = e.few;
      found = found_same m n h q lines (o.rounds + 1) o.starts e.found;
    }

-- A layout of all states has the same steps, and can be read as a system.
module _ (m : Meaning) (law : Lawful 256 m) (p : Layout) (h : LaidOut m m.count p) where
  same_ends : (s : ℕ) → (stored p.laid).ends s ≡ m.ends s
  same_ends s = ⊎_elim inside outside (cases_lt s m.count)
    where
      inside : s < m.count → (stored p.laid).ends s ≡ m.ends s
      inside l = rw (h.states, lt-ltb s m.count l) (h.ends s l)

      outside : m.count ≤ s → (stored p.laid).ends s ≡ m.ends s
      outside l = rw (h.states, le-ltb s m.count l) (sym (law.no_ends s l))

  same_listed : (s : ℕ) → SameListed ((stored p.laid).steps s) (m.steps s)
  same_listed s = ⊎_elim inside outside (cases_lt s m.count)
    where
      inside : s < m.count → SameListed ((stored p.laid).steps s) (m.steps s)
      inside l = rw (h.states, lt-ltb s m.count l) (record { to = (h.steps s l).back; back = (h.steps s l).to })

      outside : m.count ≤ s → SameListed ((stored p.laid).steps s) (m.steps s)
      outside l = rw (h.states, le-ltb s m.count l, law.no_steps s l) (record { to = λ a t i. i; back = λ a t i. i })

  pub laid_same : SameSteps (stored p.laid) m
  laid_same = record { counts = h.states; ends = same_ends; steps = same_listed }

  -- the step at a place of a state is listed
  place_listed : (s k : ℕ) → s < p.laid.states → k < many p.laid s → In (step_at p.laid (from p.laid s + k)) (m.steps s)
  place_listed s k l i =
      let x = step_at p.laid (from p.laid s + k) in
      (same_listed s).to x.0 x.1 (nth_in x ((stored p.laid).steps s) k (sym (step_inside p.laid s l k i)))

  pub laid_readable : Readable p.laid
  laid_readable =
      let e = h.states in
      let some = law.some in
      let few = law.few in
      record {
        some = omega arith;
        few = omega arith;
        states_room = lit≤ tt;
        steps_room = lit≤ tt;
        inside = λ s l. let r = h.room in let i = h.inside s (omega arith) in omega arith;
        acts = λ s k l i. law.acts s _ _ (place_listed s k l i);
        aims = λ s k l i. let r = law.aims s _ _ (place_listed s k l i) in omega arith;
      }
