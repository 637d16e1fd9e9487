-- A test of how two procedures compare. The checker computes it.
use Rattle.std.proofs.Common.{◌≡◌, ℕ, zero, suc, ◌<◌, Bool, true, not, ◌&&◌, eqb, ltb, List, [], ◌∷◌, sym, refl, subst, ⊎_elim}
use Rattle.std.proofs.lemmas.Bool.{and_parts, ltb-true}
use Rattle.std.proofs.lemmas.Bool.Decides.{Decides-below_and}
use Rattle.lts.specs.Meaning.{Meaning, In}
use Rattle.lts.specs.Joined.{joined}
use Rattle.theory.specs.Bisimulation.{Inside}
use Rattle.theory.specs.Rounds.{agree, all_of}
use Rattle.theory.proofs.Relations.{decides_self}
use Rattle.theory.proofs.Firsts.{firsts}
use Rattle.pairs.specs.Rows.{Verdict, same, different}

-- each number below n passes
abbrev pub all_below : (ℕ → Bool) → ℕ → Bool
all_below p zero = true
all_below p (suc n) = p n && all_below p n

pub passes : (p : ℕ → Bool) (n : ℕ) → all_below p n ≡ true → (k : ℕ) → k < n → p k ≡ true
passes p n = (Decides-below_and p (λ k. p k ≡ true) (all_below p) (λ k. decides_self (p k)) refl (λ _. refl) n).0

-- the targets are below n
abbrev aims : ℕ → List (ℕ × ℕ) → Bool
aims n [] = true
aims n (x ∷ xs) = ltb x.1 n && aims n xs

each_aims : (n : ℕ) (xs : List (ℕ × ℕ)) → aims n xs ≡ true → (a t : ℕ) → In (a, t) xs → t < n
each_aims n [] e a t i = absurd i
each_aims n (x ∷ xs) e a t i =
    let h = and_parts (ltb x.1 n) (aims n xs) e in
    ⊎_elim (λ d. subst (λ (v : ℕ × ℕ). v.1 < n) (sym d) (ltb-true x.1 n h.0)) (each_aims n xs h.1 a t) i

-- there is a start, and the steps lead to states
abbrev pub sound : Meaning → Bool
sound m = ltb 0 m.count && all_below (λ s. aims m.count (m.steps s)) m.count

pub sound_start : (m : Meaning) → sound m ≡ true → 0 < m.count
sound_start m e = ltb-true 0 m.count (and_parts _ _ e).0

pub sound_inside : (m : Meaning) → sound m ≡ true → Inside m
sound_inside m e s a t l = each_aims m.count (m.steps s) (passes _ m.count (and_parts _ _ e).1 s l) a t

-- how many classes round k has
abbrev pub classes_at : Meaning → ℕ → ℕ
classes_at m k = firsts (all_of m) (agree m k) m.count

-- round r is the first with K classes, and the next has as many
abbrev pub settles : Meaning → ℕ → ℕ → Bool
settles m K r = all_below (λ k. not (eqb (classes_at m k) K)) r && (eqb (classes_at m r) K && eqb (classes_at m (suc r)) K)

-- the verdict on states 0 and n, where round r is stable
abbrev pub tells : Meaning → ℕ → ℕ → Verdict → Bool
tells m n r same = agree m r 0 n
tells m n r (different d) = all_below (λ k. agree m k 0 n) d && not (agree m d 0 n)

abbrev pub compares : Meaning → Meaning → Verdict → ℕ → ℕ → Bool
compares p q verdict K r =
    (sound p && sound q) && (settles (joined p q) K r && tells (joined p q) p.count r verdict)
