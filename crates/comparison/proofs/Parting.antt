-- A state leaves its class for a new one.
use Rattle.std.proofs.Common.{◌≡◌, ℕ, suc, ◌+◌, ◌<◌, ◌≤◌, Bool, true, false, cond, not, ◌≢◌, ◌↔◌, List, length, get_or, set, Some, None, Option, sym, refl, ap, ◌∙◌, subst, ⊎_elim, add-one, arith, length-set, below_more}
use mathlib.Core.Bool.{beq}
use mathlib.Core.Logic.Iff
use Rattle.std.proofs.lemmas.List.{get_or-set_same, get_or-set_other}
use Rattle.std.proofs.lemmas.Bool.{cases_eq, true≢false, false≢true}
use Rattle.lts.specs.Meaning.{Meaning, Lawful}
use Rattle.theory.specs.Rounds.{Agree}
use Rattle.formulas.specs.declared.line.Line.{Line}
use Rattle.comparison.specs.Reach.{numbers, hits}
use Rattle.comparison.specs.Marks.{Marks, Kept, divided}
use Rattle.comparison.specs.Landing.{unsplit, Drawn, DrawnAt, Landing, moved}
use Rattle.comparison.specs.Contrasts.{Alike, Weighs, Parts}
use Rattle.comparison.specs.Links.{pushed, Linked}
use Rattle.comparison.specs.Drafts.{parted, FitsIn}
use Rattle.comparison.specs.Standing.{Based, Working, Parting, land}
use Rattle.comparison.specs.declared.draft.Draft.{Draft}
use Rattle.comparison.specs.declared.draft.Weighed.{Weighed}
use Rattle.comparison.specs.declared.links.Chain.{Chain}
use Rattle.comparison.specs.declared.partition.Partition.{Partition}
use Rattle.comparison.specs.declared.split.Split.{Split}
use Rattle.comparison.proofs.Marking.{kept_divided, length_divided, wellformed_divided, marks_with, marks_without, marks_like, marks_kept}
use Rattle.comparison.proofs.Splitting.{landing_few, landing_split, moved_new, moved_old, moved_rest, stays, moves, elsewhere}
use Rattle.comparison.proofs.Linking.{born_more}
use Rattle.comparison.proofs.Sending.{sent_more}
use Rattle.comparison.proofs.Rounding.{hit_class, agree_alike}

-- the line of those on a side, and of those on the other
module _ (m : Meaning) (ls : List Line) (d p q : ℕ) (P : ℕ → Type 0) (h : ℕ → Bool) (with : Marks m ls d p (λ t. P t × (h t ≡ true))) (without : Marks m ls d q (λ t. P t × (h t ≡ true → ⊥))) where
  beq_true : (b : Bool) → (b ≡ true) ↔ (beq b true ≡ true)
  beq_true true = (λ e. e, λ e. e)
  beq_true false = (λ e. e, λ e. e)

  beq_not_true : (b : Bool) → (b ≡ true → ⊥) ↔ (beq b true ≡ false)
  beq_not_true true = (λ f. absurd (f refl), λ e _. true≢false e)
  beq_not_true false = (λ _. refl, λ _ e. false≢true e)

  beq_not_false : (b : Bool) → (b ≡ true → ⊥) ↔ (beq b false ≡ true)
  beq_not_false true = (λ f. absurd (f refl), λ e _. false≢true e)
  beq_not_false false = (λ _. refl, λ _ e. false≢true e)

  beq_false : (b : Bool) → (b ≡ true) ↔ (beq b false ≡ false)
  beq_false true = (λ _. refl, λ _. refl)
  beq_false false = (λ e. sym e, λ e. sym e)

  under : {X A B : Type 0} → A ↔ B → (X × A) ↔ (X × B)
  under e = (λ r. (r.0, e.0 r.1), λ r. (r.0, e.1 r.1))

  pub on_side : (b : Bool) → Marks m ls d (cond b p q) (λ t. P t × (beq (h t) b ≡ true))
  on_side true = marks_like m ls d p _ _ (λ t _. under (beq_true (h t))) with
  on_side false = marks_like m ls d q _ _ (λ t _. under (beq_not_false (h t))) without

  pub off_side : (b : Bool) → Marks m ls d (cond b q p) (λ t. P t × (beq (h t) b ≡ false))
  off_side true = marks_like m ls d q _ _ (λ t _. under (beq_not_true (h t))) without
  off_side false = marks_like m ls d p _ _ (λ t _. under (beq_false (h t))) with

beq_same : (a b : Bool) → a ≡ b → beq a b ≡ true
beq_same true b e = subst (λ (x : Bool). beq true x ≡ true) e refl
beq_same false b e = subst (λ (x : Bool). beq false x ≡ true) e refl

beq_other : (a b : Bool) → a ≡ not b → beq a b ≡ false
beq_other a true e = subst (λ (x : Bool). beq x true ≡ false) (sym e) refl
beq_other a false e = subst (λ (x : Bool). beq x false ≡ false) (sym e) refl

module _ {most : ℕ} {m : Meaning} (law : Lawful most m) (few : most ≤ 256) {k : ℕ} {v : Weighed} {old : Partition} {lines : List Line} {x : Draft} (w : Working m k v.state old lines x) (state : v.state < m.count) {y : Split} (q : Parting m v old x y) where
  abbrev s : ℕ
  s = v.state

  abbrev l : Weighed
  l = q.leader

  is : land m old x s ≡ y.from
  is = q.lands

  led_by : get_or x.leaders y.from None ≡ Some l
  led_by = q.led

  parts : Parts m (numbers old.class) s l.state y.from y
  parts = q.parts

  abbrev n : ℕ → ℕ
  n = numbers old.class

  abbrev e : ℕ
  e = x.next.count

  -- the states on the side of those that leave
  abbrev test : ℕ → Bool
  test t = beq (hits n y.action y.into (m.steps t)) y.side

  leader : (l.state < s) × (land m old x l.state ≡ y.from) × Weighs m (numbers old.class) l
  leader = w.leads y.from l led_by

  respects : (t u : ℕ) → t < m.count → u < m.count → Agree m (suc k) t u → test t ≡ test u
  respects t u _ _ a =
      ap (λ (b : Bool). beq b y.side) (agree_alike m law k old.count n w.based.numbering t u a y.action y.into)

  gone_s : test s ≡ true
  gone_s = beq_same _ y.side parts.gone

  stays_l : test l.state ≡ false
  stays_l = beq_other _ y.side parts.stays

  split_landing : Landing m k n (suc e) (moved (land m old x) test y.from e)
  split_landing =
      let low = leader.0 in
      landing_split m k n e (land m old x) w.landing test y.from respects s l.state state (omega arith) is leader.1 gone_s stays_l

  -- there is room for one class more
  part_room : (e < 256) × (x.links.made < 256) × (length lines + 4 ≤ 1024) × (y.from < 256) × (y.into < old.count)
  part_room =
      let few_classes = landing_few m k n (suc e) (moved (land m old x) test y.from e) split_landing in
      let low = w.landing.below s state in
      let c = w.counted in
      let f = w.few in
      let some = law.few in
      (omega arith, omega arith, omega arith, omega arith, side y.side refl)
    where
      side : (b : Bool) → y.side ≡ b → y.into < old.count
      side true z = hit_class m law k old.count n w.based.numbering s y.action y.into (parts.gone ∙ z)
      side false z = hit_class m law k old.count n w.based.numbering l.state y.action y.into (parts.stays ∙ ap not z)

  pub part_fits : FitsIn x v y
  part_fits =
      let r = part_room in
      let a = r.0 in
      let b = r.1 in
      let c = r.3 in
      let f = law.few in
      let i = w.class_size in
      let j = w.marks_size in
      let v = w.leaders_size in
      record { state = omega arith; number = omega arith; room = a; made = b; from = omega arith; low = c; marks = omega arith; leaders = omega arith }

  pub lines_room : length lines + 4 ≤ 1024
  lines_room = part_room.2

  module _ (gone stay : ℕ) (gone_is : gone ≡ cond y.side (length lines + 1) (length lines + 3)) (stay_is : stay ≡ cond y.side (length lines + 3) (length lines + 1)) (chains : List (Option Chain)) (nexts : List (Option ℕ)) (linked : Linked (pushed x.links y chains nexts)) where
    abbrev after : Draft
    after = parted x v y gone stay chains nexts

    abbrev lines' : List Line
    lines' = divided lines y.action (numbers old.marks y.into) (numbers x.next.marks y.from)

    land_after : (t : ℕ) → land m old after t ≡ moved (land m old x) test y.from e t
    land_after t =
        let room : x.links.made < length x.links.splits = let r = part_room.1 in let z = w.linked.splits_size in omega arith in
        let more = sent_more (λ a c. hits n a c (m.steps t)) x.links.splits old.count (n t) x.links.made y room in
        subst (λ (v : ℕ). land m old after t ≡ moved (land m old x) test y.from v t) (sym w.counted) more

    after_landing : Landing m k n (e + 1) (land m old after)
    after_landing = rw add-one (subst (Landing m k n (suc e)) (λ i t. sym (land_after t) i) split_landing)

    -- the leader, and all that are like it, stay
    stays_like : (t : ℕ) → Alike m n t l.state → land m old after t ≡ land m old x t
    stays_like t like =
        land_after t ∙ stays (land m old x) test y.from e t (ap (λ (b : Bool). beq b y.side) (like y.action y.into) ∙ stays_l)

    -- so no settled state moves
    unmoved : (t : ℕ) → t < s → land m old after t ≡ land m old x t
    unmoved t lt = ⊎_elim same (λ ne. land_after t ∙ elsewhere (land m old x) test y.from e t ne) (cases_eq (land m old x t) y.from)
      where
        same : land m old x t ≡ y.from → land m old after t ≡ land m old x t
        same h =
            let r = w.follows t lt in
            let here : get_or x.leaders y.from None ≡ Some r.0 = ap (λ (v : ℕ). get_or x.leaders v None) (sym h) ∙ r.1 in
            let z : r.0 ≡ l = cc in
            stays_like t (subst (λ (u : Weighed). Alike m n t u.state) z r.2)

    lands_new : land m old after s ≡ e
    lands_new = land_after s ∙ moves (land m old x) test y.from e s is gone_s

    low : y.from < e
    low = subst (λ (v : ℕ). v < e) is (w.landing.below s state)

    settled_after : (t : ℕ) → t < s + 1 → get_or (set x.next.class s e) t 0 ≡ land m old after t
    settled_after = below_more _ s before last
      where
        before : (t : ℕ) → t < s → get_or (set x.next.class s e) t 0 ≡ land m old after t
        before t lt =
            let ne : t ≢ s = omega arith in
            get_or-set_other x.next.class s t e 0 ne ∙ (w.settled t lt ∙ sym (unmoved t lt))

        last : get_or (set x.next.class s e) s 0 ≡ land m old after s
        last =
            let z = w.class_size in
            let f = law.few in
            let room : s < length x.next.class = omega arith in
            get_or-set_same x.next.class s e 0 room ∙ sym lands_new

    leaders_room : e < length x.leaders
    leaders_room = let r = part_room.0 in let z = w.leaders_size in omega arith

    leads_after : (c : ℕ) (u : Weighed) → get_or (set x.leaders e (Some v)) c None ≡ Some u → (u.state < s + 1) × (land m old after u.state ≡ c) × Weighs m n u
    leads_after c u h = ⊎_elim same other (cases_eq c e)
      where
        same : c ≡ e → (u.state < s + 1) × (land m old after u.state ≡ c) × Weighs m n u
        same d =
            let here : get_or (set x.leaders e (Some v)) c None ≡ Some v = ap (λ (b : ℕ). get_or (set x.leaders e (Some v)) b None) d ∙ get_or-set_same x.leaders e (Some v) None leaders_room in
            let z : v ≡ u = cc in
            subst (λ (b : Weighed). (b.state < s + 1) × (land m old after b.state ≡ c) × Weighs m n b) z (omega arith, lands_new ∙ sym d, q.weighs)

        other : (c ≡ e → ⊥) → (u.state < s + 1) × (land m old after u.state ≡ c) × Weighs m n u
        other ne =
            let r = w.leads c u (sym (get_or-set_other x.leaders e c (Some v) None ne) ∙ h) in
            let b = r.0 in
            (omega arith, unmoved u.state r.0 ∙ r.1, r.2)

    follows_after : (t : ℕ) → t < s + 1 → (u : Weighed) × (get_or (set x.leaders e (Some v)) (land m old after t) None ≡ Some u) × Alike m n t u.state
    follows_after = below_more _ s before last
      where
        before : (t : ℕ) → t < s → (u : Weighed) × (get_or (set x.leaders e (Some v)) (land m old after t) None ≡ Some u) × Alike m n t u.state
        before t lt =
            let r = w.follows t lt in
            let b = w.landing.below t (omega arith) in
            let ne : land m old x t ≢ e = omega arith in
            (r.0, ap (λ (b : ℕ). get_or (set x.leaders e (Some v)) b None) (unmoved t lt) ∙ (get_or-set_other x.leaders e (land m old x t) (Some v) None ne ∙ r.1), r.2)

        last : (u : Weighed) × (get_or (set x.leaders e (Some v)) (land m old after s) None ≡ Some u) × Alike m n s u.state
        last =
            (v, ap (λ (b : ℕ). get_or (set x.leaders e (Some v)) b None) lands_new ∙ get_or-set_same x.leaders e (Some v) None leaders_room, λ a c. refl)

    drawn_after : Drawn (set x.links.splits x.links.made y) (x.links.made + 1)
    drawn_after = below_more _ x.links.made before last
      where
        before : (j : ℕ) → j < x.links.made → DrawnAt (get_or (set x.links.splits x.links.made y) j unsplit)
        before j lj =
            let ne : j ≢ x.links.made = omega arith in
            subst DrawnAt (sym (get_or-set_other x.links.splits x.links.made j y unsplit ne)) (w.drawn j lj)

        last : DrawnAt (get_or (set x.links.splits x.links.made y) x.links.made unsplit)
        last =
            let room : x.links.made < length x.links.splits = let r = part_room.1 in let z = w.linked.splits_size in omega arith in
            subst DrawnAt (sym (get_or-set_same x.links.splits x.links.made y unsplit room)) (record { action = parts.action; into = parts.into })

    into_mark : Marks m lines k (numbers old.marks y.into) (λ u. n u ≡ y.into)
    into_mark = w.based.marked y.into part_room.4

    from_mark : Marks m lines (suc k) (numbers x.next.marks y.from) (λ t. land m old x t ≡ y.from)
    from_mark = w.marked y.from low

    abbrev reach : ℕ → Bool
    reach t = hits n y.action y.into (m.steps t)

    with_step : Marks m lines' (suc k) (length lines + 1) (λ t. (land m old x t ≡ y.from) × (reach t ≡ true))
    with_step =
        marks_with m lines y.action (numbers old.marks y.into) (numbers x.next.marks y.from) n y.into k (λ t. land m old x t ≡ y.from) law.aims into_mark from_mark

    without_step : Marks m lines' (suc k) (length lines + 3) (λ t. (land m old x t ≡ y.from) × (reach t ≡ true → ⊥))
    without_step =
        marks_without m lines y.action (numbers old.marks y.into) (numbers x.next.marks y.from) n y.into k (λ t. land m old x t ≡ y.from) law.aims into_mark from_mark

    gone_mark : Marks m lines' (suc k) gone (λ t. land m old after t ≡ e)
    gone_mark =
        let here = on_side m lines' (suc k) (length lines + 1) (length lines + 3) (λ t. land m old x t ≡ y.from) reach with_step without_step y.side in
        let placed = subst (λ (i : ℕ). Marks m lines' (suc k) i (λ t. (land m old x t ≡ y.from) × (test t ≡ true))) (sym gone_is) here in
        marks_like m lines' (suc k) gone _ _ (λ t lt. subst (λ (v : ℕ). ((land m old x t ≡ y.from) × (test t ≡ true)) ↔ (v ≡ e)) (sym (land_after t)) (Iff.symm (moved_new (land m old x) test y.from e t (w.landing.below t lt)))) placed

    stay_mark : Marks m lines' (suc k) stay (λ t. land m old after t ≡ y.from)
    stay_mark =
        let here = off_side m lines' (suc k) (length lines + 1) (length lines + 3) (λ t. land m old x t ≡ y.from) reach with_step without_step y.side in
        let placed = subst (λ (i : ℕ). Marks m lines' (suc k) i (λ t. (land m old x t ≡ y.from) × (test t ≡ false))) (sym stay_is) here in
        marks_like m lines' (suc k) stay _ _ (λ t lt. subst (λ (v : ℕ). ((land m old x t ≡ y.from) × (test t ≡ false)) ↔ (v ≡ y.from)) (sym (land_after t)) (Iff.symm (moved_old (land m old x) test y.from e t low))) placed

    abbrev marks' : List ℕ
    marks' = set (set x.next.marks y.from stay) e gone

    marked_after : (c : ℕ) → c < e + 1 → Marks m lines' (suc k) (numbers marks' c) (λ t. land m old after t ≡ c)
    marked_after = below_more _ e before last
      where
        size : length x.next.marks ≡ 256
        size = w.marks_size

        room : e < 256
        room = part_room.0

        last : Marks m lines' (suc k) (numbers marks' e) (λ t. land m old after t ≡ e)
        last =
            let wide = length-set x.next.marks y.from stay in
            let z = size in
            let b = room in
            let in_range : e < length (set x.next.marks y.from stay) = omega arith in
            subst (λ (i : ℕ). Marks m lines' (suc k) i (λ t. land m old after t ≡ e)) (sym (get_or-set_same (set x.next.marks y.from stay) e gone 0 in_range)) gone_mark

        before : (c : ℕ) → c < e → Marks m lines' (suc k) (numbers marks' c) (λ t. land m old after t ≡ c)
        before c lc = ⊎_elim same other (cases_eq c y.from)
          where
            ne : c ≢ e
            ne = omega arith

            behind : numbers marks' c ≡ get_or (set x.next.marks y.from stay) c 0
            behind = get_or-set_other (set x.next.marks y.from stay) e c gone 0 ne

            same : c ≡ y.from → Marks m lines' (suc k) (numbers marks' c) (λ t. land m old after t ≡ c)
            same h =
                let in_range : y.from < length x.next.marks = let b = low in let z = size in let r = room in omega arith in
                let value : numbers marks' c ≡ stay = behind ∙ (ap (λ (v : ℕ). get_or (set x.next.marks y.from stay) v 0) h ∙ get_or-set_same x.next.marks y.from stay 0 in_range) in
                subst (λ (i : ℕ). Marks m lines' (suc k) i (λ t. land m old after t ≡ c)) (sym value) (subst (λ (v : ℕ). Marks m lines' (suc k) stay (λ t. land m old after t ≡ v)) (sym h) stay_mark)

            other : (c ≡ y.from → ⊥) → Marks m lines' (suc k) (numbers marks' c) (λ t. land m old after t ≡ c)
            other differs =
                let value : numbers marks' c ≡ numbers x.next.marks c = behind ∙ get_or-set_other x.next.marks y.from c stay 0 differs in
                let kept = marks_kept m lines lines' (suc k) (numbers x.next.marks c) _ (kept_divided m lines y.action (numbers old.marks y.into) (numbers x.next.marks y.from)) (w.marked c lc) in
                let here = marks_like m lines' (suc k) (numbers x.next.marks c) _ _ (λ t lt. subst (λ (v : ℕ). (land m old x t ≡ c) ↔ (v ≡ c)) (sym (land_after t)) (Iff.symm (moved_rest (land m old x) test y.from e t c differs ne))) kept in
                subst (λ (i : ℕ). Marks m lines' (suc k) i (λ t. land m old after t ≡ c)) (sym value) here

    based_after : Based m k lines' old
    based_after =
        record { class_size = w.based.class_size; marks_size = w.based.marks_size; numbering = w.based.numbering; marked = λ c lc. marks_kept m lines lines' k (numbers old.marks c) _ (kept_divided m lines y.action (numbers old.marks y.into) (numbers x.next.marks y.from)) (w.based.marked c lc) }

    pub part_works : Working m k (s + 1) old lines' after
    part_works =
        let size = length_divided m lines y.action (numbers old.marks y.into) (numbers x.next.marks y.from) in
        let f = w.few in
        let count = w.counted in
        record {
          based = based_after;
          class_size = length-set x.next.class s e ∙ w.class_size;
          marks_size = length-set (set x.next.marks y.from stay) e gone ∙ (length-set x.next.marks y.from stay ∙ w.marks_size);
          leaders_size = length-set x.leaders e (Some v) ∙ w.leaders_size;
          counted = omega arith;
          linked = linked;
          born = born_more x.links w.linked part_room.1 y part_room.3 old.count chains nexts w.born (let l = low in omega arith);
          drawn = drawn_after;
          landing = after_landing;
          settled = settled_after;
          leads = leads_after;
          follows = follows_after;
          marked = marked_after;
          well = wellformed_divided m lines y.action (numbers old.marks y.into) (numbers x.next.marks y.from) w.well parts.action into_mark.placed from_mark.placed;
          few = omega arith;
        }

  -- as the calls leave the lines and the draft
  pub found_works : (gone stay : ℕ) → gone ≡ cond y.side (length lines + 1) (length lines + 3) → stay ≡ cond y.side (length lines + 3) (length lines + 1) → (ls : List Line) (z : Draft) → ls ≡ divided lines y.action (numbers old.marks y.into) (numbers x.next.marks y.from) → z ≡ parted x v y gone stay z.links.chains z.links.nexts → Linked z.links → Working m k (s + 1) old ls z × Kept lines ls
  found_works gone stay gone_is stay_is ls z p q linked =
      let linked' : Linked (pushed x.links y z.links.chains z.links.nexts) = subst Linked (ap (λ (d : Draft). d.links) q) linked in
      let works = part_works gone stay gone_is stay_is z.links.chains z.links.nexts linked' in
      let lines' = divided lines y.action (numbers old.marks y.into) (numbers x.next.marks y.from) in
      (subst (λ (v : List Line). Working m k (s + 1) old v z) (sym p) (subst (Working m k (s + 1) old lines') (sym q) works), subst (Kept lines) (sym p) (kept_divided m lines y.action (numbers old.marks y.into) (numbers x.next.marks y.from)))
