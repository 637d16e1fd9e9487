-- One state more is settled.
use Rattle.std.proofs.Common.{◌≡◌, ℕ, ◌+◌, ◌<◌, ◌≤◌, ◌≢◌, List, length, get_or, set, Some, None, Option, sym, refl, ap, ◌∙◌, subst, ⊎_elim, arith, length-set, below_more}
use Rattle.std.proofs.lemmas.List.{get_or-set_same, get_or-set_other}
use Rattle.std.proofs.lemmas.Bool.{cases_eq}
use Rattle.lts.specs.Meaning.{Meaning, Lawful}
use Rattle.formulas.specs.declared.line.Line.{Line}
use Rattle.comparison.specs.Reach.{numbers, hits, weight, holds, Reached}
use Rattle.comparison.specs.Landing.{unsplit, sent}
use Rattle.comparison.specs.Contrasts.{Alike, Weighs, Parts}
use Rattle.comparison.specs.Drafts.{joined, led}
use Rattle.comparison.specs.Standing.{Working, Parting, land}
use Rattle.comparison.specs.declared.draft.Draft.{Draft}
use Rattle.comparison.specs.declared.draft.Weighed.{Weighed}
use Rattle.comparison.specs.declared.partition.Partition.{Partition}
use Rattle.comparison.specs.declared.reach.Reach.{Reach}
use Rattle.comparison.specs.declared.split.Split.{Split}
use Rattle.comparison.proofs.Splitting.{landing_few}
use Rattle.comparison.proofs.Sending.{sent_like}

module _ {m : Meaning} {k s : ℕ} {old : Partition} {lines : List Line} {x : Draft} (w : Working m k s old lines x) (state : s < m.count) (few : m.count ≤ 256) where
  -- the class that is written for s
  written : (d : ℕ) → land m old x s ≡ d → (t : ℕ) → t < s + 1 → get_or (set x.next.class s d) t 0 ≡ land m old x t
  written d is = below_more _ s before last
    where
      before : (t : ℕ) → t < s → get_or (set x.next.class s d) t 0 ≡ land m old x t
      before t l = let ne : t ≢ s = omega arith in get_or-set_other x.next.class s t d 0 ne ∙ w.settled t l

      last : get_or (set x.next.class s d) s 0 ≡ land m old x s
      last = let n = w.class_size in let l : s < length x.next.class = omega arith in get_or-set_same x.next.class s d 0 l ∙ sym is

  -- s joins the class where it lands, whose leader it is like
  pub join_works : (d : ℕ) (l : Weighed) → land m old x s ≡ d → get_or x.leaders d None ≡ Some l → Alike m (numbers old.class) s l.state → Working m k (s + 1) old lines (joined x s d)
  join_works d l is led_by like =
      record {
        based = w.based;
        class_size = length-set x.next.class s d ∙ w.class_size;
        marks_size = w.marks_size;
        leaders_size = w.leaders_size;
        counted = w.counted;
        linked = w.linked;
        born = w.born;
        drawn = w.drawn;
        landing = w.landing;
        settled = written d is;
        leads = λ c u e. let r = w.leads c u e in (omega arith, r.1, r.2);
        follows = below_more _ s w.follows (l, ap (λ (c : ℕ). get_or x.leaders c None) is ∙ led_by, like);
        marked = w.marked;
        well = w.well;
        few = w.few;
      }

  -- s leads the class where it lands, if it is like the leader so far
  pub lead_works : (pairs d : ℕ) → pairs ≡ weight (numbers old.class) (m.steps s) → land m old x s ≡ d → ((l : Weighed) → get_or x.leaders d None ≡ Some l → Alike m (numbers old.class) s l.state) → Working m k (s + 1) old lines (led x (record { state = s; weight = pairs }) d)
  lead_works pairs d weighs is like =
      record {
        based = w.based;
        class_size = length-set x.next.class s d ∙ w.class_size;
        marks_size = w.marks_size;
        leaders_size = length-set x.leaders d (Some new) ∙ w.leaders_size;
        counted = w.counted;
        linked = w.linked;
        born = w.born;
        drawn = w.drawn;
        landing = w.landing;
        settled = written d is;
        leads = leads;
        follows = below_more _ s follows last;
        marked = w.marked;
        well = w.well;
        few = w.few;
      }
    where
      new : Weighed
      new = record { state = s; weight = pairs }

      room : d < length x.leaders
      room =
          let n = w.leaders_size in
          let b = w.landing.below s state in
          let f = landing_few m k (numbers old.class) x.next.count (land m old x) w.landing in
          omega arith

      leads : (c : ℕ) (l : Weighed) → get_or (set x.leaders d (Some new)) c None ≡ Some l → (l.state < s + 1) × (land m old x l.state ≡ c) × Weighs m (numbers old.class) l
      leads c l e = ⊎_elim same other (cases_eq c d)
        where
          same : c ≡ d → (l.state < s + 1) × (land m old x l.state ≡ c) × Weighs m (numbers old.class) l
          same h =
              let here : get_or (set x.leaders d (Some new)) c None ≡ Some new = ap (λ (v : ℕ). get_or (set x.leaders d (Some new)) v None) h ∙ get_or-set_same x.leaders d (Some new) None room in
              let z : new ≡ l = cc in
              subst (λ (u : Weighed). (u.state < s + 1) × (land m old x u.state ≡ c) × Weighs m (numbers old.class) u) z (omega arith, is ∙ sym h, weighs)

          other : (c ≡ d → ⊥) → (l.state < s + 1) × (land m old x l.state ≡ c) × Weighs m (numbers old.class) l
          other ne =
              let r = w.leads c l (sym (get_or-set_other x.leaders d c (Some new) None ne) ∙ e) in
              (omega arith, r.1, r.2)

      follows : (t : ℕ) → t < s → (l : Weighed) × (get_or (set x.leaders d (Some new)) (land m old x t) None ≡ Some l) × Alike m (numbers old.class) t l.state
      follows t l = ⊎_elim same other (cases_eq (land m old x t) d)
        where
          r : (l : Weighed) × (get_or x.leaders (land m old x t) None ≡ Some l) × Alike m (numbers old.class) t l.state
          r = w.follows t l

          same : land m old x t ≡ d → (l : Weighed) × (get_or (set x.leaders d (Some new)) (land m old x t) None ≡ Some l) × Alike m (numbers old.class) t l.state
          same e =
              let had : get_or x.leaders d None ≡ Some r.0 = ap (λ (v : ℕ). get_or x.leaders v None) (sym e) ∙ r.1 in
              (new, ap (λ (v : ℕ). get_or (set x.leaders d (Some new)) v None) e ∙ get_or-set_same x.leaders d (Some new) None room, λ a c. r.2 a c ∙ sym (like r.0 had a c))

          other : land m old x t ≢ d → (l : Weighed) × (get_or (set x.leaders d (Some new)) (land m old x t) None ≡ Some l) × Alike m (numbers old.class) t l.state
          other ne = (r.0, get_or-set_other x.leaders d (land m old x t) (Some new) None ne ∙ r.1, r.2)

      last : (l : Weighed) × (get_or (set x.leaders d (Some new)) (land m old x s) None ≡ Some l) × Alike m (numbers old.class) s l.state
      last =
          (new, ap (λ (v : ℕ). get_or (set x.leaders d (Some new)) v None) is ∙ get_or-set_same x.leaders d (Some new) None room, λ a c. refl)

-- a leader that s is like is the leader
pub like_leader : (m : Meaning) (n : ℕ → ℕ) (s : ℕ) (o : Option Weighed) (l : Weighed) → o ≡ Some l → Alike m n s l.state → (u : Weighed) → o ≡ Some u → Alike m n s u.state
like_leader m n s o l e like u f = let z : l ≡ u = cc in subst (λ (v : Weighed). Alike m n s v.state) z like

-- where s lands, by the table of its pairs
module _ {most : ℕ} {m : Meaning} (law : Lawful most m) (most_few : most ≤ 256) {k s : ℕ} {old : Partition} {lines : List Line} {x : Draft} (w : Working m k s old lines x) (state : s < m.count) where
  pub classes_few : x.next.count ≤ 256
  classes_few =
      let a = landing_few m k (numbers old.class) x.next.count (land m old x) w.landing in
      let b = law.few in
      omega arith

  module _ (r : Reach) (reached : Reached (numbers old.class) (m.steps s) r) (d : ℕ) (is : d ≡ sent (holds r) x.links.splits old.count (numbers old.class s) x.links.made) where
    pub lands_at : land m old x s ≡ d
    lands_at =
        sym (is ∙ sent_like (holds r) (λ a c. hits (numbers old.class) a c (m.steps s)) x.links.splits old.count (numbers old.class s) x.links.made (λ i l. let z = w.drawn i l in reached (get_or x.links.splits i unsplit).action (get_or x.links.splits i unsplit).into z.action z.into))

    pub lands_low : d < 256
    lands_low = let b = w.landing.below s state in let e = lands_at in let f = classes_few in omega arith

-- the split that a contrast answers parts s from its leader
pub parting_at : (m : Meaning) (s : Weighed) (old : Partition) (x : Draft) (l : Weighed) (d : ℕ) (y : Split) → Weighs m (numbers old.class) s → land m old x s.state ≡ d → Some l ≡ get_or x.leaders d None → Parts m (numbers old.class) s.state l.state d y → Parting m s old x y
parting_at m s old x l d y weighs is led_by parts =
    let of = parts.of in
    record {
      weighs = weighs;
      leader = l;
      lands = is ∙ sym of;
      led = ap (λ (v : ℕ). get_or x.leaders v None) of ∙ sym led_by;
      parts = record { of = refl; action = parts.action; into = parts.into; gone = parts.gone; stays = parts.stays };
    }
