-- A draft takes in one record after another.
use Rattle.std.proofs.Common.{◌≡◌, ℕ, ◌+◌, ◌<◌, ◌≤◌, Bool, true, false, ◌||◌, eqb, ◌⊎◌, List, [], ◌∷◌, ◌++◌, length, get_or, take, set, None, sym, refl, ap, ◌∙◌, subst, inl, inr, ⊎_elim, append_assoc, append-nil, arith, length-set, get_or-set_other, get_or-set_same}
use Rattle.std.proofs.Math.Bool.{or-false, or_assoc}
use Rattle.std.proofs.lemmas.List.{take_more_set, length-take-le}
use Rattle.std.proofs.lemmas.Bool.{le-ltb, lt-leb, eq-eqb, ne_eqb, cases_eq, or_right}
use Rattle.lts.specs.Meaning.{In}
use Rattle.lts.specs.Laws.Member.{in_either}
use Rattle.tables.specs.Kinds.{end, step, remark}
use Rattle.tables.specs.Drawing.{byte, ended, names_end, steps_of, step_of, out_of}
use Rattle.tables.specs.Records.{Rec}
use Rattle.tables.specs.Rows.{fault}
use Rattle.tables.specs.Drafts.{Draws, drawn}
use Rattle.tables.specs.Held.{Inside, Numbers, Held}
use Rattle.tables.specs.declared.draft.Draft.{Draft}
use Rattle.tables.specs.declared.step.Step.{Step}
use Rattle.tables.proofs.Outgoing.{out_here, out_other, numbers_set}

-- one record more at the end
pub ended_push : (s : ℕ) (rs : List Rec) (r : Rec) → ended s (rs ++ r ∷ []) ≡ (ended s rs || names_end s r.kind r.body)
ended_push s [] r = or-false (names_end s r.kind r.body)
ended_push s (x ∷ rs) r = rw (ended_push s rs r) (sym (or_assoc (names_end s x.kind x.body) (ended s rs) (names_end s r.kind r.body)))

pub steps_push : (rs : List Rec) (r : Rec) → steps_of (rs ++ r ∷ []) ≡ steps_of rs ++ step_of r.kind r.body
steps_push [] r = append-nil (step_of r.kind r.body)
steps_push (x ∷ rs) r = rw (steps_push rs r) (sym (append_assoc (step_of x.kind x.body) (steps_of rs) (step_of r.kind r.body)))

-- a step more, or an end more, and a draft holds what it held
module _ {states : ℕ} {ends : List Bool} {counts : List ℕ} {steps : List Step} {used : ℕ} (held : Held states ends counts steps used) where
  module _ (x : Step) (room : used < 512) where
    pub steps_more : take (used + 1) (set steps used x) ≡ take used steps ++ x ∷ []
    steps_more = let p = held.places in take_more_set steps used x (omega arith)

    module _ (inside : Inside states x) where
      -- the steps out of the state that the step leaves are one more
      counted : Numbers (λ s. length (out_of s (take (used + 1) (set steps used x)))) (set counts x.from (get_or counts x.from 0 + 1))
      counted =
          let f = inside.from in
          let n = held.few in
          let from : x.from < 128 = omega arith in
          rw steps_more (numbers_set held.counted x.from (get_or counts x.from 0 + 1) from (ap (λ c. c + 1) (held.counted.each x.from from) ∙ sym (out_here (take used steps) x)) (λ s ne. sym (out_other (take used steps) x s ne)))

      pub held_step : Held states ends (set counts x.from (get_or counts x.from 0 + 1)) (set steps used x) (used + 1)
      held_step = record { some = held.some; few = held.few; marks = held.marks; counted = counted; places = simp length-set held.places; room = omega arith; inside = all_inside }
        where
          last : (y : Step) → In y (x ∷ []) → Inside states y
          last y (inl e) = subst (Inside states) (sym e) inside
          last y (inr n) = absurd n

          all_inside : (y : Step) → In y (take (used + 1) (set steps used x)) → Inside states y
          all_inside y i = ⊎_elim (held.inside y) (last y) (in_either y (take used steps) (x ∷ []) (subst (In y) steps_more i))

-- a draft that keeps its steps under a record that draws none
same_steps : (h : Rec) (rs : List Rec) (d : Draft) (x : Rec) → Draws h rs d → step_of x.kind x.body ≡ [] → drawn d ≡ steps_of (h ∷ (rs ++ x ∷ []))
same_steps h rs d x w e = w.steps ∙ sym (steps_push (h ∷ rs) x ∙ (ap (λ xs. steps_of (h ∷ rs) ++ xs) e ∙ append-nil (steps_of (h ∷ rs))))

-- a draft that keeps its ends under a record that names none
module _ (h : Rec) (rs : List Rec) (d : Draft) (x : Rec) (w : Draws h rs d) (e : (s : ℕ) → names_end s x.kind x.body ≡ false) where
  unnamed : (s : ℕ) → ended s (h ∷ (rs ++ x ∷ [])) ≡ ended s (h ∷ rs)
  unnamed s = ended_push s (h ∷ rs) x ∙ rw (e s) (or-false (ended s (h ∷ rs)))

  same_ends : (s : ℕ) → s < d.states → get_or d.ends s false ≡ ended s (h ∷ (rs ++ x ∷ []))
  same_ends s l = w.ends s l ∙ sym (unnamed s)

  same_no_ends : (s : ℕ) → d.states ≤ s → ended s (h ∷ (rs ++ x ∷ [])) ≡ false
  same_no_ends s l = unnamed s ∙ w.no_ends s l

abbrev pub remarked : ℕ → List ℕ → Rec
remarked at body = record { place = at; kind = remark; body = body }

abbrev pub ender : ℕ → ℕ → Rec
ender at state = record { place = at; kind = end; body = state ∷ [] }

abbrev pub stepper : ℕ → Step → Rec
stepper at x = record { place = at; kind = step; body = x.from ∷ x.action ∷ x.to ∷ [] }

pub take_remark : (at : ℕ) (body : List ℕ) (h : Rec) (rs : List Rec) (d : Draft) → Draws h rs d → (fault (h ∷ rs) (remarked at body) ≡ None) × Draws h (rs ++ remarked at body ∷ []) d
take_remark at body h rs d w =
    let x = remarked at body in
    (refl, record { states = w.states; ends = same_ends h rs d x w (λ s. refl); no_ends = same_no_ends h rs d x w (λ s. refl); steps = same_steps h rs d x w refl })

module _ (at state : ℕ) (d : Draft) (below : state < d.states) (h : Rec) (rs : List Rec) (w : Draws h rs d) where
  marked : (s : ℕ) → s < d.states → (s ≡ state) ⊎ (s ≡ state → ⊥) → get_or (set d.ends state true) s false ≡ (ended s (h ∷ rs) || eqb s state)
  marked s l (inl e) =
      let m = d.held.marks in
      let f = d.held.few in
      let i : state < length d.ends = omega arith in
      let b : (ended state (h ∷ rs) || eqb state state) ≡ true = or_right (ended state (h ∷ rs)) (eqb state state) (eq-eqb state state refl) in
      subst (λ z. get_or (set d.ends state true) z false ≡ (ended z (h ∷ rs) || eqb z state)) (sym e) (get_or-set_same d.ends state true false i ∙ sym b)
  marked s l (inr n) =
      rw (ne_eqb s state n) (get_or-set_other d.ends state s true false n ∙ (w.ends s l ∙ sym (or-false (ended s (h ∷ rs)))))

  unmarked : (s : ℕ) → d.states ≤ s → (ended s (h ∷ rs) || eqb s state) ≡ false
  unmarked s l = rw (w.no_ends s l, ne_eqb s state (λ e. omega arith))

  abbrev pub with_end : Held d.states (set d.ends state true) d.counts d.steps d.used → Draft
  with_end held = record { states = d.states; ends = set d.ends state true; counts = d.counts; steps = d.steps; used = d.used; held = held }

  pub take_end : (held : Held d.states (set d.ends state true) d.counts d.steps d.used) → (fault (h ∷ rs) (ender at state) ≡ None) × Draws h (rs ++ ender at state ∷ []) (with_end held)
  take_end held =
      let n = w.states in
      let l : state < byte h.body 0 = omega arith in
      (rw (lt-leb (byte h.body 0) state l) refl, record { states = w.states; ends = λ s i. marked s i (cases_eq s state) ∙ sym (ended_push s (h ∷ rs) (ender at state)); no_ends = λ s i. ended_push s (h ∷ rs) (ender at state) ∙ unmarked s i; steps = same_steps h rs d (ender at state) w refl })

module _ (at : ℕ) (d : Draft) (x : Step) (room : d.used < 512) (inside : Inside d.states x) (h : Rec) (rs : List Rec) (w : Draws h rs d) where
  abbrev pub with_step : Held d.states d.ends (set d.counts x.from (get_or d.counts x.from 0 + 1)) (set d.steps d.used x) (d.used + 1) → Draft
  with_step held = record { states = d.states; ends = d.ends; counts = set d.counts x.from (get_or d.counts x.from 0 + 1); steps = set d.steps d.used x; used = d.used + 1; held = held }

  pub take_step : (held : Held d.states d.ends (set d.counts x.from (get_or d.counts x.from 0 + 1)) (set d.steps d.used x) (d.used + 1)) → (fault (h ∷ rs) (stepper at x) ≡ None) × Draws h (rs ++ stepper at x ∷ []) (with_step held)
  take_step held =
      let n = w.states in
      let p = d.held.places in
      let f = inside.from in
      let t = inside.to in
      let from : x.from < byte h.body 0 = omega arith in
      let to : x.to < byte h.body 0 = omega arith in
      let all = length-take-le d.used d.steps (omega arith) in
      let len = ap length w.steps in
      let few : length (steps_of (h ∷ rs)) < 512 = omega arith in
      (rw (lt-leb (byte h.body 0) x.from from, le-ltb 63 x.action inside.action, lt-leb (byte h.body 0) x.to to, lt-leb 512 (length (steps_of (h ∷ rs))) few) refl, record { states = w.states; ends = same_ends h rs d (stepper at x) w (λ s. refl); no_ends = same_no_ends h rs d (stepper at x) w (λ s. refl); steps = steps_more d.held x room ∙ (ap (λ xs. xs ++ x ∷ []) w.steps ∙ sym (steps_push (h ∷ rs) (stepper at x))) })
