-- Pairs that are reached, against the rounds.
use Rattle.std.proofs.Common.{◌≡◌, ℕ, suc, ◌<◌, true, sym, refl, ◌∙◌}
use Rattle.std.proofs.lemmas.Bool.{lt-ltb}
use Rattle.lts.specs.Meaning.{Meaning, Lawful}
use Rattle.theory.specs.Bisimulation.{Answered}
use Rattle.theory.specs.Rounds.{Agree, all_of}
use Rattle.theory.specs.Classes.{Numbering}
use Rattle.theory.proofs.Counting.{bool_same}
use Rattle.comparison.specs.Reach.{hits}
use Rattle.comparison.specs.Contrasts.{Alike}
use Rattle.comparison.proofs.Pairs.{hits_in, in_hits}

module _ {most : ℕ} (m : Meaning) (law : Lawful most m) (k K : ℕ) (n : ℕ → ℕ) (numbering : Numbering m (all_of m) k K n) where
  -- a pair that is reached leads into a class
  pub hit_class : (t a c : ℕ) → hits n a c (m.steps t) ≡ true → c < K
  hit_class t a c e =
      let r = hits_in n a c (m.steps t) e in
      let b = numbering.below r.0 (lt-ltb r.0 m.count (law.aims t a r.0 r.1)) in
      rw r.2 at b

  answered_hits : (t u a c : ℕ) → Answered (m.steps t) (m.steps u) (Agree m k) → hits n a c (m.steps t) ≡ true → hits n a c (m.steps u) ≡ true
  answered_hits t u a c answers e =
      let r = hits_in n a c (m.steps t) e in
      let x = r.0 in
      let y = answers a x r.1 in
      let same = (numbering.equal x y.0 (lt-ltb x m.count (law.aims t a x r.1)) (lt-ltb y.0 m.count (law.aims u a y.0 y.1))).1 y.2 in
      in_hits n a c y.0 (m.steps u) y.1 (sym same ∙ r.2)

  hits_answered : (t u : ℕ) → Alike m n t u → Answered (m.steps t) (m.steps u) (Agree m k)
  hits_answered t u like a x i =
      let e = in_hits n a (n x) x (m.steps t) i refl in
      let r = hits_in n a (n x) (m.steps u) (sym (like a (n x)) ∙ e) in
      (r.0, r.1, (numbering.equal x r.0 (lt-ltb x m.count (law.aims t a x i)) (lt-ltb r.0 m.count (law.aims u a r.0 r.1))).0 (sym r.2))

  -- states that agree at the next round reach the same pairs
  pub agree_alike : (t u : ℕ) → Agree m (suc k) t u → Alike m n t u
  agree_alike t u h a c =
      bool_same (hits n a c (m.steps t)) (hits n a c (m.steps u)) (answered_hits t u a c h.1) (answered_hits u t a c h.2)

  -- states of one class that reach the same pairs agree at the next round
  pub alike_agree : (t u : ℕ) → t < m.count → u < m.count → n t ≡ n u → Alike m n t u → Agree m (suc k) t u
  alike_agree t u lt lu e like =
      ((numbering.equal t u (lt-ltb t m.count lt) (lt-ltb u m.count lu)).0 e, hits_answered t u like, hits_answered u t (λ a c. sym (like a c)))
