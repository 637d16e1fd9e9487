-- How a round begins and ends.
use Rattle.std.proofs.Common.{◌≡◌, ℕ, suc, ◌<◌, ◌≤◌, ◌↔◌, List, get_or, replicate, Some, None, Option, sym, refl, ap, ◌∙◌, subst, ⊎_elim, add-zero, arith}
use lib.ListN.{length-replicate}
use Rattle.std.proofs.lemmas.List.{get_or-replicate, get_or_past}
use Rattle.std.proofs.lemmas.Bool.{ltb-true, lt-ltb, cases_lt}
use Rattle.lts.specs.Meaning.{Meaning, Lawful}
use Rattle.theory.specs.Rounds.{Agree, all_of}
use Rattle.theory.specs.Classes.{Numbering}
use Rattle.formulas.specs.declared.line.Line.{Line}
use Rattle.comparison.specs.Reach.{numbers, hits}
use Rattle.comparison.specs.Contrasts.{Alike}
use Rattle.comparison.specs.Links.{Linked}
use Rattle.comparison.specs.Drafts.{fresh}
use Rattle.comparison.specs.Standing.{Standing, Working, land}
use Rattle.comparison.specs.declared.draft.Draft.{Draft}
use Rattle.comparison.specs.declared.draft.Weighed.{Weighed}
use Rattle.comparison.specs.declared.links.Links.{Links}
use Rattle.comparison.specs.declared.partition.Partition.{Partition}
use Rattle.comparison.proofs.Linking.{cleared_linked}
use Rattle.comparison.proofs.Marking.{marks_like, marks_deeper}
use Rattle.comparison.proofs.Rounding.{alike_agree}

none_yet : (n i : ℕ) → get_or {A = Option Weighed} (replicate n None) i None ≡ None
none_yet n i =
    ⊎_elim
    (λ (l : i < n). get_or-replicate n i None None l)
    (λ (l : n ≤ i). get_or_past (replicate n None) i None (rw length-replicate l))
    (cases_lt i n)

-- before the first state of a round
pub opening : (m : Meaning) (k : ℕ) (old : Partition) (lines : List Line) (x : Links) → Linked x → Standing m k lines old → Working m k 0 old lines (fresh old x)
opening m k old lines x linked h =
    let b = h.based in
    let num = b.numbering in
    record {
      based = b;
      class_size = b.class_size;
      marks_size = b.marks_size;
      leaders_size = length-replicate {A = Option Weighed} 256 None;
      counted = sym (add-zero old.count);
      linked = cleared_linked x linked;
      born = λ t l. let z : ⊥ = omega arith in absurd z;
      drawn = λ j l. let z : ⊥ = omega arith in absurd z;
      landing =
          record {
            below = λ t l. num.below t (lt-ltb t m.count l);
            occurs = λ c l. let r = num.occurs c l in (r.0, ltb-true r.0 m.count r.1, r.2);
            keeps = λ t u lt lu a. (num.equal t u (lt-ltb t m.count lt) (lt-ltb u m.count lu)).1 a.0;
            refines = λ t u _ _ e. e;
          };
      settled = λ t l. refl;
      leads = λ c l e. let z = none_yet 256 c in let f : ◌≡◌ {A = ℕ} 0 1 = cc in let n : ⊥ = omega arith in absurd n;
      follows = λ t l. let z : ⊥ = omega arith in absurd z;
      marked = λ c l. marks_deeper m lines k (suc k) (numbers old.marks c) _ (omega arith) (b.marked c l);
      well = h.well;
      few = h.few;
    }

-- behind the last state
module _ {most : ℕ} (m : Meaning) (law : Lawful most m) (k s : ℕ) (old : Partition) (lines : List Line) (x : Draft) (w : Working m k s old lines x) (all : m.count ≤ s) where
  settled : (t : ℕ) → t < m.count → numbers x.next.class t ≡ land m old x t
  settled t l = w.settled t (omega arith)

  -- states that land together reach the same pairs
  together : (t u : ℕ) → t < m.count → u < m.count → land m old x t ≡ land m old x u → Alike m (numbers old.class) t u
  together t u lt lu e a c =
      let p = w.follows t (omega arith) in
      let q = w.follows u (omega arith) in
      let at : get_or x.leaders (land m old x t) None ≡ Some q.0 = ap (λ (v : ℕ). get_or x.leaders v None) e ∙ q.1 in
      let z : p.0 ≡ q.0 = cc in
      p.2 a c ∙ (ap (λ (v : Weighed). hits (numbers old.class) a c (m.steps v.state)) z ∙ sym (q.2 a c))

  next_numbering : Numbering m (all_of m) (suc k) x.next.count (numbers x.next.class)
  next_numbering =
      record {
        below = λ t e. let l = ltb-true t m.count e in subst (λ (v : ℕ). v < x.next.count) (sym (settled t l)) (w.landing.below t l);
        occurs = λ c l. let r = w.landing.occurs c l in (r.0, lt-ltb r.0 m.count r.1, settled r.0 r.1 ∙ r.2);
        equal = λ t u x' y'. equal t u (ltb-true t m.count x') (ltb-true u m.count y');
      }
    where
      equal : (t u : ℕ) → t < m.count → u < m.count → (numbers x.next.class t ≡ numbers x.next.class u) ↔ Agree m (suc k) t u
      equal t u lt lu = (
        λ e.
            let same : land m old x t ≡ land m old x u = sym (settled t lt) ∙ (e ∙ settled u lu) in
            alike_agree m law k old.count (numbers old.class) w.based.numbering t u lt lu (w.landing.refines t u lt lu same) (together t u lt lu same),
        λ a. settled t lt ∙ (w.landing.keeps t u lt lu a ∙ sym (settled u lu)),
      )

  pub closing : Standing m (suc k) lines x.next
  closing =
      record {
        based =
            record {
              class_size = w.class_size;
              marks_size = w.marks_size;
              numbering = next_numbering;
              marked = λ c l. marks_like m lines (suc k) (numbers x.next.marks c) _ _ (λ t lt. (λ e. settled t lt ∙ e, λ e. sym (settled t lt) ∙ e)) (w.marked c l);
            };
        well = w.well;
        few = w.few;
      }
