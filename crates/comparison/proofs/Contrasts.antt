-- Two states that reach the same pairs.
use Rattle.std.proofs.Common.{◌≡◌, ℕ, ◌+◌, ◌*◌, ◌/◌, ◌%◌, ◌<◌, ◌≤◌, true, sym, ◌∙◌, subst, arith}
use Rattle.lts.specs.Meaning.{Meaning, Lawful}
use Rattle.theory.proofs.Counting.{bool_same, number_back}
use Rattle.comparison.specs.Reach.{hits, all_pairs, all_pairs_are, weight, holds, Reached}
use Rattle.comparison.specs.Contrasts.{Alike}
use Rattle.comparison.specs.declared.reach.Reach.{Reach}
use Rattle.comparison.proofs.Pairs.{hits_in}

module _ {most : ℕ} (m : Meaning) (law : Lawful most m) (n : ℕ → ℕ) (low : (u : ℕ) → u < m.count → n u < 256) where
  -- a pair that is reached has a cell
  pub hit_low : (t a c : ℕ) → hits n a c (m.steps t) ≡ true → (a ≤ 63) × (c < 256)
  hit_low t a c e =
      let r = hits_in n a c (m.steps t) e in
      (law.acts t a r.0 r.1, subst (λ (v : ℕ). v < 256) r.2 (low r.0 (law.aims t a r.0 r.1)))

  module _ (s t : ℕ) (here there : Reach) (at_s : Reached n (m.steps s) here) (at_t : Reached n (m.steps t) there) where
    to_there : ((a c : ℕ) → hits n a c (m.steps s) ≡ true → holds there a c ≡ true) → (a c : ℕ) → hits n a c (m.steps s) ≡ true → hits n a c (m.steps t) ≡ true
    to_there inside a c e = let r = hit_low s a c e in sym (at_t a c r.0 r.1) ∙ inside a c e

    to_here : ((a c : ℕ) → hits n a c (m.steps t) ≡ true → holds here a c ≡ true) → (a c : ℕ) → hits n a c (m.steps t) ≡ true → hits n a c (m.steps s) ≡ true
    to_here inside a c e = let r = hit_low t a c e in sym (at_s a c r.0 r.1) ∙ inside a c e

    -- each lacks nothing of the other
    pub alike_within : ((a c : ℕ) → hits n a c (m.steps s) ≡ true → holds there a c ≡ true) → ((a c : ℕ) → hits n a c (m.steps t) ≡ true → holds here a c ≡ true) → Alike m n s t
    alike_within f g a c = bool_same (hits n a c (m.steps s)) (hits n a c (m.steps t)) (to_there f a c) (to_here g a c)

  -- s reaches all that t does, and they reach as many
  module _ (s t : ℕ) (here : Reach) (at_s : Reached n (m.steps s) here) where
    pub alike_counted : ((a c : ℕ) → hits n a c (m.steps t) ≡ true → holds here a c ≡ true) → weight n (m.steps s) ≡ weight n (m.steps t) → Alike m n s t
    alike_counted inside count a c = bool_same (hits n a c (m.steps s)) (hits n a c (m.steps t)) back (forth a c)
      where
        forth : (a c : ℕ) → hits n a c (m.steps t) ≡ true → hits n a c (m.steps s) ≡ true
        forth a c e = let r = hit_low t a c e in sym (at_s a c r.0 r.1) ∙ inside a c e

        back : hits n a c (m.steps s) ≡ true → hits n a c (m.steps t) ≡ true
        back e =
            let r = hit_low s a c e in
            let low = r.0 in
            let column = r.1 in
            let all = all_pairs_are in
            let row : (a * 256 + c) / 256 ≡ a = omega arith in
            let rest : (a * 256 + c) % 256 ≡ c = omega arith in
            let at : hits n ((a * 256 + c) / 256) ((a * 256 + c) % 256) (m.steps s) ≡ true = rw (row, rest) e in
            let got = number_back (λ (i : ℕ). hits n (i / 256) (i % 256) (m.steps t)) (λ (i : ℕ). hits n (i / 256) (i % 256) (m.steps s)) all_pairs (λ i _. forth (i / 256) (i % 256)) (omega (arith, count)) (a * 256 + c) (omega arith) at in
            rw (row, rest) at got
