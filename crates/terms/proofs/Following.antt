-- The runs that the states behind a term's actions are given, from those of its parts.
use Rattle.std.proofs.Common.{◌≡◌, ℕ, zero, suc, ◌+◌, ◌<◌, ◌≤◌, List, [], ◌++◌, map, length, get_or, Some, sym, refl, ap, ◌∙◌, subst, ⊎_elim, arith, length-append}
use lib.ListN.{length-map}
use Rattle.std.specs.List.{slice_get}
use Rattle.std.proofs.lemmas.Option.{slice_get-get_or}
use Rattle.lts.specs.Laws.Member.{nth_inside}
use Rattle.lts.specs.Layout.{run_at, run}
use Rattle.lts.specs.declared.laid.Run.{Run}
use Rattle.terms.specs.Syntax.{Tree, leaf, choice, sequence, size, Rest, done, left}
use Rattle.terms.specs.Graph.{followed, firsts, rests, contents, leads}
use Rattle.terms.specs.Laws.Lawful.{length_rests}
use Rattle.terms.specs.Lists.{Shows, Keeps, Listed, Given, after, Fits, Follows, Lays}
use Rattle.terms.specs.declared.listing.Listing.{Listing}
use Rattle.terms.proofs.Joined.{nth_either, nth_from_map}
use Rattle.terms.proofs.Runs.{run_same, keeps_keeps, shows_more, listed_join}

-- a term has no more first actions than actions
pub few_firsts : (t : Tree) → length (firsts t) ≤ size t
few_firsts (leaf a i) = omega arith
few_firsts (choice x y) =
    let first = few_firsts x in
    let second = few_firsts y in
    omega (arith, length-append (firsts x) (firsts y))
few_firsts (sequence x y) = let first = few_firsts x in omega arith

-- a run that was given stays
kept_run : (l l' : Listing) (s : ℕ) (xs : List (ℕ × ℕ)) → Keeps l l' → s < l.laid.states → Shows l (run_at l.laid s) xs → Shows l' (run_at l'.laid s) xs
kept_run l l' s xs k h shows = rw (k.runs s h) (shows_more l l' (run_at l.laid s) xs k shows)

-- the steps behind the whole stay the same
same_then : (l l' : Listing) (then : Run) → Keeps l l' → then.from + then.count ≤ l.listed → run l'.laid then.from then.count ≡ run l.laid then.from then.count
same_then l l' then k h = run_same l.laid l'.laid then.from then.count (λ i b. k.steps i (omega arith))

-- The runs of what remains, from state `base` on.
abbrev Each : Listing → ℕ → List (ℕ × ℕ) → List (Rest Tree) → Type 0
Each l base then rs = (k : ℕ) (r : Rest Tree) → slice_get rs k ≡ Some r → Shows l (run_at l.laid (base + k)) (after then r)

-- two parts, one behind the other
each_join : (l l' : Listing) (base mid : ℕ) (then : List (ℕ × ℕ)) (xs ys : List (Rest Tree)) → Keeps l l' → mid ≡ base + length xs → l.laid.states ≡ mid → Each l base then xs → Each l' mid then ys → Each l' base then (xs ++ ys)
each_join l l' base mid then xs ys keeps at states first second k r h =
    ⊎_elim
    (λ e. let i = nth_inside r xs k e in kept_run l l' (base + k) (after then r) keeps (omega arith) (first k r e))
    (λ q. let i : base + k ≡ mid + q.0 = omega (arith, q.1) in subst (λ s. Shows l' (run_at l'.laid s) (after then r)) (sym i) (second q.0 r q.2))
    (nth_either r xs ys k h)

-- the first actions of a choice: those of its first part, then those of its second
module _ (t x y : Tree) (e : t ≡ choice x y) where
  pub listed_choice : (l l₁ l₂ : Listing) → Listed l (firsts x) l₁ → Listed l₁ (firsts y) l₂ → Listed l (firsts t) l₂
  listed_choice l l₁ l₂ j k = rw (ap firsts e) (listed_join l l₁ l₂ (firsts x) (firsts y) j k)

  choice_width : length (firsts t) ≡ length (firsts x) + length (firsts y)
  choice_width = ap (λ v. length (firsts v)) e ∙ length-append (firsts x) (firsts y)

  choice_size : size t ≡ size x + size y
  choice_size = ap size e

  module _ (l : Listing) (then : Run) (f : Fits l then t) where
    pub choice_fits : Fits l then x
    choice_fits =
        let a = f.steps in
        let b = f.states in
        record { inside = f.inside; steps = omega (arith, choice_width, choice_size, few_firsts y); states = omega (arith, choice_size) }

    pub choice_follows : (l₁ l₂ : Listing) → Follows l x then l₁ → Follows l₁ y then l₂ → Follows l t then l₂
    choice_follows l₁ l₂ j k =
        let v = j.written in
        let w = k.written in
        let s = j.states in
        let u = k.states in
        let n = length_rests x in
        let same = same_then l l₁ then j.keeps f.inside in
        let second = subst (λ xs. Each l₂ l₁.laid.states xs (rests y)) same k.each in
        let all = each_join l₁ l₂ l.laid.states l₁.laid.states (run l.laid then.from then.count) (rests x) (rests y) k.keeps (omega arith) refl j.each second in
        record {
          keeps = keeps_keeps l l₁ l₂ (omega arith) j.keeps k.keeps;
          written = omega (arith, choice_width, choice_size);
          states = omega (arith, choice_size);
          each = subst (λ v. Each l₂ l.laid.states (run l.laid then.from then.count) (rests v)) (sym e) all;
        }

-- what follows the first part of a sequence is its second part
after_followed : (then : List (ℕ × ℕ)) (y : Tree) (r : Rest Tree) → after then (followed y r) ≡ after (firsts y) r
after_followed then y done = refl
after_followed then y (left x) = refl

each_followed : (l : Listing) (base : ℕ) (then : List (ℕ × ℕ)) (y : Tree) (rs : List (Rest Tree)) → Each l base (firsts y) rs → Each l base then (map (followed y) rs)
each_followed l base then y rs each k r h =
    let q = nth_from_map (followed y) r rs k h in
    subst (λ xs. Shows l (run_at l.laid (base + k)) xs) (sym (ap (after then) q.2 ∙ after_followed then y q.0)) (each k q.0 q.1)

module _ (t x y : Tree) (e : t ≡ sequence x y) (l : Listing) (then : Run) (f : Fits l then t) where
  sequence_width : length (firsts t) ≡ length (firsts x)
  sequence_width = ap (λ v. length (firsts v)) e

  sequence_size : size t ≡ size x + size y
  sequence_size = ap size e

  pub sequence_room : l.listed + length (firsts y) ≤ 63
  sequence_room = let a = f.steps in omega (arith, sequence_width, sequence_size, few_firsts x, few_firsts y)

  module _ (l₁ : Listing) (second : Run) (i : Listed l (firsts y) l₁) (shows : Shows l₁ second (firsts y)) where
    pub sequence_fits : Fits l₁ second x
    sequence_fits =
        let a = f.steps in
        let b = f.states in
        let c = i.added in
        let d = i.states in
        record { inside = shows.inside; steps = omega (arith, sequence_width, sequence_size, few_firsts y); states = omega (arith, sequence_size) }

    module _ (l₂ : Listing) (j : Follows l₁ x second l₂) where
      keeps_first : Keeps l l₂
      keeps_first = let d = i.states in keeps_keeps l l₁ l₂ (omega arith) i.keeps j.keeps

      first_each : Each l₂ l.laid.states (run l.laid then.from then.count) (map (followed y) (rests x))
      first_each =
          let here = subst (λ xs. Each l₂ l₁.laid.states xs (rests x)) shows.steps j.each in
          each_followed l₂ l.laid.states (run l.laid then.from then.count) y (rests x) (subst (λ s. Each l₂ s (firsts y) (rests x)) i.states here)

      pub sequence_follows : (l₃ : Listing) → Follows l₂ y then l₃ → Follows l t then l₃
      sequence_follows l₃ k =
          let c = i.added in
          let d = i.states in
          let v = j.written in
          let w = k.written in
          let s = j.states in
          let u = k.states in
          let n = length_rests x in
          let m = length-map (rests x) (followed y) in
          let same = same_then l l₂ then keeps_first f.inside in
          let last = subst (λ xs. Each l₃ l₂.laid.states xs (rests y)) same k.each in
          let all = each_join l₂ l₃ l.laid.states l₂.laid.states (run l.laid then.from then.count) (map (followed y) (rests x)) (rests y) k.keeps (omega arith) refl first_each last in
          record {
            keeps = keeps_keeps l l₂ l₃ (omega arith) keeps_first k.keeps;
            written = omega (arith, sequence_width, sequence_size);
            states = omega (arith, sequence_size);
            each = subst (λ v. Each l₃ l.laid.states (run l.laid then.from then.count) (rests v)) (sym e) all;
          }

-- the first actions of the whole term, then what follows each action
after_all : (r : Rest Tree) → after [] r ≡ leads (Some r)
after_all done = refl
after_all (left x) = refl

module _ (t : Tree) (l l₁ l₂ l₃ : Listing) (whole none : Run) (bare : l.listed ≡ 0) (fresh : l.laid.states ≡ 0) (i : Listed l (firsts t) l₁) (shows : Shows l₁ whole (firsts t)) (g : Given l₁ whole l₂) (j : Follows l₂ t none l₃) (empty : none.count ≡ 0) where
  whole_each : (s : ℕ) → s ≤ size t → Shows l₃ (run_at l₃.laid s) (leads (slice_get (contents t) s))
  whole_each zero h =
      let b = i.states in
      let d = g.states in
      let zeroth : run_at l₂.laid 0 ≡ whole = ap (run_at l₂.laid) (omega (arith, b)) ∙ g.given in
      kept_run l₂ l₃ 0 (firsts t) j.keeps (omega arith) (rw zeroth (shows_more l₁ l₂ whole (firsts t) g.keeps shows))
  whole_each (suc k) h =
      let b = i.states in
      let d = g.states in
      let r = get_or (rests t) k done in
      let e = slice_get-get_or (rests t) k done (omega (arith, length_rests t)) in
      let n : l₂.laid.states + k ≡ suc k = omega arith in
      let none_first : run l₂.laid none.from none.count ≡ [] = ap (run l₂.laid none.from) empty in
      let steps : after (run l₂.laid none.from none.count) r ≡ leads (slice_get (rests t) k) = ap (λ xs. after xs r) none_first ∙ after_all r ∙ ap leads (sym e) in
      subst (λ xs. Shows l₃ (run_at l₃.laid (suc k)) xs) steps (subst (λ s. Shows l₃ (run_at l₃.laid s) (after (run l₂.laid none.from none.count) r)) n (j.each k r e))

  pub whole_lays : Lays t l₃
  whole_lays =
      let a = i.added in
      let c = g.listed in
      let w = j.written in
      let b = i.states in
      let d = g.states in
      let s = j.states in
      record { written = omega arith; states = omega arith; each = whole_each }
