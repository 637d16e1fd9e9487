-- When the rounds end.
use Rattle.std.proofs.Common.{◌≡◌, ℕ, suc, ◌+◌, ◌<◌, ◌≤◌, List, Option, sym, subst, add-one, arith, below_more}
use Rattle.std.proofs.lemmas.Bool.{lt-ltb}
use Rattle.lts.specs.Meaning.{Meaning, Lawful}
use Rattle.theory.specs.Rounds.{all_of, Closed, Stable}
use Rattle.theory.specs.Classes.{Numbering}
use Rattle.theory.proofs.Relations.{lawful_inside}
use Rattle.theory.proofs.Rounds.{stable_persists}
use Rattle.theory.proofs.Stability.{all_closed, all_counted, round_few, round_rises, round_stable, stable_count}
use Rattle.formulas.specs.declared.line.Line.{Line}
use Rattle.comparison.specs.Reach.{numbers}
use Rattle.comparison.specs.Marks.{Kept}
use Rattle.comparison.specs.Found.{Found, watched}
use Rattle.comparison.specs.Outcomes.{Compares, Unstable}
use Rattle.comparison.specs.Standing.{Standing}
use Rattle.comparison.specs.declared.partition.Partition.{Partition}
use Rattle.comparison.specs.declared.starts.Apart.{Apart}
use Rattle.comparison.proofs.Watching.{found_more, found_kept}

pub closed_all : {most : ℕ} (m : Meaning) → Lawful most m → Closed m (all_of m)
closed_all {most} m law = all_closed m (lawful_inside most m law)

module _ {most : ℕ} (m : Meaning) (law : Lawful most m) (k : ℕ) (lines : List Line) (p : Partition) (h : Standing m k lines p) where
  -- no more classes than states
  pub standing_few : p.count ≤ m.count
  standing_few =
      let f = round_few m (all_of m) k p.count (numbers p.class) (closed_all m law) h.based.numbering in
      omega (arith, all_counted m)

  pub classes_low : most ≤ 256 → (u : ℕ) → u < m.count → numbers p.class u < 256
  classes_low most_few u l =
      let b = h.based.numbering.below u (lt-ltb u m.count l) in
      let c = standing_few in
      let s = law.few in
      omega arith

  module _ (lines' : List Line) (p' : Partition) (h' : Standing m (k + 1) lines' p') where
    next : Numbering m (all_of m) (suc k) p'.count (numbers p'.class)
    next = subst (λ (j : ℕ). Numbering m (all_of m) j p'.count (numbers p'.class)) (add-one k) h'.based.numbering

    pub rises : p.count ≤ p'.count
    rises = round_rises m (all_of m) k p.count p'.count (numbers p.class) (numbers p'.class) (closed_all m law) h.based.numbering next

    -- a round that splits a class is not stable
    unstable : (p'.count ≡ p.count → ⊥) → Stable m (all_of m) k → ⊥
    unstable more stable =
        let closed = closed_all m law in
        more (sym (stable_count m (all_of m) k (suc k) p.count p'.count (numbers p.class) (numbers p'.class) closed stable (stable_persists m (all_of m) k (suc k) closed stable (omega arith)) h.based.numbering next))

    -- one that splits none is
    stable : p'.count ≡ p.count → Stable m (all_of m) k
    stable e =
        round_stable m (all_of m) k p.count (numbers p.class) (numbers p'.class) (closed_all m law) h.based.numbering (subst (λ (K : ℕ). Numbering m (all_of m) (suc k) K (numbers p'.class)) e next)

    module _ (q : ℕ) (inside : q < m.count) (kept : Kept lines lines') (told : Option Apart) (found : Found m q lines k told) (none : Unstable m k) (low : k < p.count) where
      found_next : Found m q lines' (k + 1) (watched told p k q)
      found_next = found_kept m q lines lines' (k + 1) (watched told p k q) kept (found_more m q lines k p told law.some inside h found)

      -- the rounds go on
      pub goes_on : (p'.count ≡ p.count → ⊥) → Found m q lines' (k + 1) (watched told p k q) × Unstable m (k + 1) × (k + 1 < p'.count)
      goes_on more = let r = rises in (found_next, below_more _ k none (unstable more), omega arith)

      -- the rounds end
      pub ends_here : p'.count ≡ p.count → Compares m q lines' (record { classes = p; rounds = k; starts = watched told p k q })
      ends_here e =
          let f = h'.few in
          record {
            size = h.based.class_size;
            numbering = h.based.numbering;
            rounds = record { stable = stable e; least = none };
            low = low;
            well = h'.well;
            few = omega arith;
            found = found_next;
          }
