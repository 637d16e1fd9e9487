-- What the rounds found, as it is reported.
use Rattle.std.proofs.Common.{◌≡◌, ℕ, ◌+◌, ◌-◌, ◌*◌, ◌<◌, ◌≤◌, Bool, true, List, Some, None, Option, ◌++◌, length, get_or, take, drop, sym, refl, ap, ◌∙◌, subst, inl, ⊎_elim, add-zero, arith}
use Rattle.std.proofs.lemmas.List.{length-take-le, get_or_append_left, get_or-take, take_at, drop_at}
use Rattle.std.proofs.lemmas.Bool.{ltb-true, lt-ltb}
use Rattle.lts.specs.Meaning.{Meaning, Lawful}
use Rattle.lts.specs.Joined.{joined}
use Rattle.lts.specs.Laws.Joined.{joined_lawful}
use Rattle.theory.specs.Bisimulation.{Related, Inside}
use Rattle.theory.specs.Rounds.{Agree, all_of, Stable}
use Rattle.theory.specs.Classes.{Numbers}
use Rattle.theory.specs.Formulas.{Formula, Holds, depth, Tells, Separates}
use Rattle.theory.proofs.Relations.{lawful_inside}
use Rattle.theory.proofs.Rounds.{stable_related}
use Rattle.theory.proofs.Formulas.{related_formulas, separated_depth, separated_disagree}
use Rattle.theory.proofs.Joining.{joined_joins, joined_related, joined_left, joined_right, joined_separates}
use Rattle.theory.proofs.Stability.{all_counted, round_few, stable_classes}
use Rattle.formulas.specs.Lines.{Wellformed, formula}
use Rattle.formulas.specs.declared.line.Line.{Line}
use Rattle.formulas.proofs.Growing.{formula_take, wellformed_take}
use Rattle.comparison.specs.Reach.{numbers}
use Rattle.comparison.specs.Found.{Told, Found}
use Rattle.comparison.specs.Outcomes.{Compares}
use Rattle.comparison.specs.Buffers.{told, left_in, FitsLines}
use Rattle.comparison.specs.Compared.{Distinguished, Judged, Reported}
use Rattle.comparison.specs.declared.outcome.Outcome.{Outcome}
use Rattle.comparison.specs.declared.report.Verdict.{Verdict}
use Rattle.comparison.specs.declared.starts.Apart.{Apart}
use Rattle.comparison.proofs.Ending.{closed_all}

-- a numbering that is the same on the set
numbers_like : (live : ℕ → Bool) (Same : ℕ → ℕ → Type 0) (K : ℕ) (n o : ℕ → ℕ) → ((s : ℕ) → live s ≡ true → o s ≡ n s) → Numbers live Same K n → Numbers live Same K o
numbers_like live Same K n o like h =
    record {
      below = λ s l. subst (λ (v : ℕ). v < K) (sym (like s l)) (h.below s l);
      occurs = λ c l. let r = h.occurs c l in (r.0, r.1, like r.0 r.1 ∙ r.2);
      equal = λ s t x y. (λ e. (h.equal s t x y).0 (sym (like s x) ∙ (e ∙ like t y)), λ e. like s x ∙ ((h.equal s t x y).1 e ∙ sym (like t y)));
    }

-- what is put in front of a list
module _ {X : Type 0} (n : ℕ) (xs ys : List X) (enough : n ≤ length xs) where
  pub take_front : take n (take n xs ++ drop n ys) ≡ take n xs
  take_front = take_at (take n xs) (drop n ys) n (length-take-le n xs enough)

  pub drop_front : drop n (take n xs ++ drop n ys) ≡ drop n ys
  drop_front = drop_at (take n xs) (drop n ys) n (length-take-le n xs enough)

  pub get_d_front : (i : ℕ) (d : X) → i < n → get_or (take n xs ++ drop n ys) i d ≡ get_or xs i d
  get_d_front i d l =
      let size = length-take-le n xs enough in
      get_or_append_left (take n xs) (drop n ys) d i (omega arith) ∙ get_or-take n xs i d l

module _ (p q : Meaning) (law_p : Lawful 128 p) (law_q : Lawful 128 q) where
  abbrev m : Meaning
  m = joined p q

  law : Lawful 256 m
  law = joined_lawful p q law_p law_q

  in_p : Inside p
  in_p = lawful_inside 128 p law_p

  in_q : Inside q
  in_q = lawful_inside 128 q law_q

  -- the right start stands behind the states of the left
  there : p.count + 0 ≡ p.count
  there = add-zero p.count

  right_inside : p.count < m.count
  right_inside = let s = law_q.some in omega arith

  pub start_inside : (s : ℕ) → s ≡ p.count → s < m.count
  start_inside s at = let r = right_inside in omega arith

  -- agreement at the stable round relates the starts
  starts_related : (k : ℕ) → Stable m (all_of m) k → Agree m k 0 p.count → Related p q 0 0
  starts_related k stable agree =
      let r = (stable_related m (all_of m) k 0 p.count (closed_all m law) stable (lt-ltb 0 m.count law.some) (lt-ltb p.count m.count right_inside)).0 agree in
      (joined_related p q m 0 0 (joined_joins p q) in_p in_q law_p.some law_q.some).1 (subst (Related m m 0) (sym there) r)

  -- a formula tells the starts apart as it does in the whole
  tells_starts : (f : Formula) → Tells m m 0 p.count f → Tells p q 0 0 f
  tells_starts f h =
      let left = joined_left p q m 0 (joined_joins p q) in_p law_p.some f in
      let right = joined_right p q m 0 (joined_joins p q) in_q law_q.some f in
      (left.1 h.0, λ x. h.1 (subst (λ (v : ℕ). Holds m v f) there (right.0 x)))

  separates_whole : (f : Formula) → Separates p q 0 0 f → Separates m m 0 p.count f
  separates_whole f h =
      subst (λ (v : ℕ). Separates m m 0 v f) there ((joined_separates p q m 0 0 (joined_joins p q) in_p in_q law_p.some law_q.some f).0 h)

  module _ (ls : List Line) (K i d : ℕ) (lines : List Line) (few : length ls + 3 ≤ 4 * K) (well : Wellformed ls) (h : Told m p.count ls i d) where
    abbrev lines' : List Line
    lines' = take (i + 1) ls ++ drop (i + 1) lines

    enough : i + 1 ≤ length ls
    enough = let l = h.placed in omega arith

    same_lines : take (i + 1) lines' ≡ take (i + 1) ls
    same_lines = take_front (i + 1) ls lines enough

    same_formula : formula (take (i + 1) lines') i ≡ formula ls i
    same_formula = ap (λ (v : List Line). formula v i) same_lines ∙ formula_take (i + 1) ls i (omega arith) h.placed

    depth_is : depth (formula ls i) ≡ d
    depth_is = let low = separated_depth m d 0 p.count (formula ls i) h.agreed (inl h.tells) in let high = h.shallow in omega arith

    pub distinguished : Distinguished p q K lines (i + 1) i d lines'
    distinguished =
        let l = h.placed in
        let tells = tells_starts (formula ls i) h.tells in
        record {
          unrelated = λ r. tells.1 ((related_formulas p q 0 0 r (formula ls i)).0 tells.0);
          some = omega arith;
          most = omega arith;
          named = omega arith;
          well = subst Wellformed (sym same_lines) (wellformed_take (i + 1) ls well);
          rest = drop_front (i + 1) ls lines enough;
          tells = subst (Tells p q 0 0) (sym same_formula) tells;
          deep = ap depth same_formula ∙ depth_is;
          agreed = h.agreed;
          disagreed = λ r. separated_disagree m 0 p.count (formula ls i) (inl h.tells) (subst (λ (v : ℕ). Agree m v 0 p.count) (sym depth_is) r);
          least = λ f z. separated_depth m d 0 p.count f h.agreed (separates_whole f z);
        }

  -- what was found with the right start at state s
  module _ (s : ℕ) (at : s ≡ p.count) (ls : List Line) (o : Outcome) (found_at : Compares m s ls o) where
    h : Compares m p.count ls o
    h = subst (λ (v : ℕ). Compares m v ls o) at found_at

    KFew : o.classes.count ≤ m.count
    KFew =
        let f = round_few m (all_of m) o.rounds o.classes.count (numbers o.classes.class) (closed_all m law) h.numbering in
        omega (arith, all_counted m)

    pub counts_low : (o.classes.count < 65536) × (o.rounds < 65536)
    counts_low = let f = KFew in let s = law.few in let l = h.low in (omega arith, omega arith)

    module _ (lines : List Line) (classes : List ℕ) (line_room : 4 * m.count - 3 ≤ length lines) (class_room : m.count ≤ length classes) where
      fits : (t : Option Apart) (k : ℕ) → Found m p.count ls k t → FitsLines t ls lines
      fits None k found = tt
      fits (Some x) k found = let l = found.placed in let f = h.few in let g = KFew in (l, omega arith)

      pub fits_lines : FitsLines o.starts ls lines
      fits_lines = fits o.starts (o.rounds + 1) h.found

      judged : (t : Option Apart) → Found m p.count ls (o.rounds + 1) t → Judged p q o.classes.count lines (told t) (left_in t ls lines)
      judged None found = (starts_related o.rounds h.rounds.stable (found o.rounds (omega arith)), refl)
      judged (Some x) found = distinguished ls o.classes.count x.line x.depth lines h.few h.well found

      pub reported : Reported p q lines classes (record { verdict = told o.starts; classes = o.classes.count; rounds = o.rounds }) (left_in o.starts ls lines) (take m.count o.classes.class ++ drop m.count classes)
      reported =
          let enough : m.count ≤ length o.classes.class = let z = h.size in let s = law.few in omega arith in
          let g = KFew in
          let low = h.low in
          record {
            room = λ short. ⊎_elim (λ x. omega arith) (λ x. omega arith) short;
            numbered = numbers_like (all_of m) (Related m m) o.classes.count (numbers o.classes.class) _ (λ s l. get_d_front m.count o.classes.class classes enough s 0 (ltb-true s m.count l)) (stable_classes m (all_of m) o.rounds o.classes.count (numbers o.classes.class) (closed_all m law) h.rounds.stable h.numbering);
            rest = drop_front m.count o.classes.class classes enough;
            rounds = h.rounds;
            few = omega arith;
            verdict = judged o.starts h.found;
          }

      -- with the answer and the buffers as the calls leave them
      pub reported_as : (n : ℕ) (v : Verdict) (lines'' : List Line) (classes'' : List ℕ) → n ≡ m.count → v ≡ told o.starts → lines'' ≡ left_in o.starts ls lines → classes'' ≡ take n o.classes.class ++ drop n classes → Reported p q lines classes (record { verdict = v; classes = o.classes.count; rounds = o.rounds }) lines'' classes''
      reported_as n v lines'' classes'' is-n is-v is-lines is-classes =
          let whole : classes'' ≡ take m.count o.classes.class ++ drop m.count classes = is-classes ∙ ap (λ (k : ℕ). take k o.classes.class ++ drop k classes) is-n in
          subst (λ (x : Verdict). Reported p q lines classes (record { verdict = x; classes = o.classes.count; rounds = o.rounds }) lines'' classes'') (sym is-v)
          (subst (λ (x : List Line). Reported p q lines classes (record { verdict = told o.starts; classes = o.classes.count; rounds = o.rounds }) x classes'') (sym is-lines)
          (subst (Reported p q lines classes (record { verdict = told o.starts; classes = o.classes.count; rounds = o.rounds }) (left_in o.starts ls lines)) (sym whole) reported))
