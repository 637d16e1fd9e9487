-- A source under an action map keeps the bounds of every source.
use Rattle.std.specs.Prelude.{◌≡◌, ℕ, ◌<◌, ◌≤◌, List, map, slice_index_or}
use Rattle.std.proofs.Common.{arith, ap}
use Rattle.std.proofs.lemmas.List.{length-map}
use Rattle.lts.specs.Meaning.{Meaning, Lawful, In}
use Rattle.lts.specs.Map.{ActionsBelow, replaced, mapped}
use Rattle.lts.specs.Laws.Member.{from_map}

module _ (entries : List ℕ) (actions : ActionsBelow entries 64) {most : ℕ} (m : Meaning) (law : Lawful most m) where
  replaced_acts : (s a t : ℕ) → In (a, t) ((mapped entries m).steps s) → a ≤ 63
  replaced_acts s a t h =
      let r = from_map (replaced entries) (a, t) (m.steps s) h in
      let old = law.acts s r.0.0 r.0.1 r.1 in
      let new = actions r.0.0 (omega arith) in
      let e : a ≡ slice_index_or entries r.0.0 0 = ap (λ (v : ℕ × ℕ). v.0) r.2 in
      omega arith

  kept_aims : (s a t : ℕ) → In (a, t) ((mapped entries m).steps s) → t < m.count
  kept_aims s a t h =
      let r = from_map (replaced entries) (a, t) (m.steps s) h in
      let old = law.aims s r.0.0 r.0.1 r.1 in
      let e : t ≡ r.0.1 = ap (λ (v : ℕ × ℕ). v.1) r.2 in
      omega arith

  pub mapped_lawful : Lawful most (mapped entries m)
  mapped_lawful =
      record { some = law.some; few = law.few; no_ends = law.no_ends; no_steps = λ s l. ap (map (replaced entries)) (law.no_steps s l); short = λ s. rw (length-map (m.steps s) (replaced entries)) (law.short s); acts = replaced_acts; aims = kept_aims }
