-- The first members of the classes of an equivalence stand for its classes.
use Rattle.std.proofs.Common.{◌≡◌, ℕ, ◌<◌, ◌≤◌, Bool, true, not, ◌&&◌, Decides, sym, ap, ◌∙◌, subst, ⊎_elim}
use Rattle.std.proofs.lemmas.Bool.Decides.{Decides-and, Decides-not, Decides-like}
use Rattle.std.proofs.lemmas.Bool.{and_parts, and_from, cases_order}
use Rattle.theory.specs.Classes.{number, Numbers}
use Rattle.theory.proofs.Relations.{some_below, decides_some, decides_self}
use Rattle.theory.proofs.Counting.{number_le, number_back, number_lower, number_apart, number_onto, least, least_of}

-- a test that is an equivalence
pub record Equivalence (same : ℕ → ℕ → Bool) : Type 0 where
  pub reflexive : (s : ℕ) → same s s ≡ true
  pub symmetric : (s t : ℕ) → same s t ≡ true → same t s ≡ true
  pub transitive : (s t u : ℕ) → same s t ≡ true → same t u ≡ true → same s u ≡ true

-- s is in the set, and the same as none in the set before it
abbrev pub first : (ℕ → Bool) → (ℕ → ℕ → Bool) → ℕ → Bool
first live same s = live s && not (some_below (λ t. live t && same t s) s)

abbrev pub First : (ℕ → Bool) → (ℕ → ℕ → Bool) → ℕ → Type 0
First live same s = (live s ≡ true) × ((t : ℕ) → t < s → live t ≡ true → same t s ≡ true → ⊥)

pub first_decided : (live : ℕ → Bool) (same : ℕ → ℕ → Bool) (s : ℕ) → Decides (first live same s) (First live same s)
first_decided live same s =
    Decides-and _ _ (decides_self (live s))
    (Decides-like _ (λ none t l x y. none (t, l, (x, y))) (λ none r. none r.0 r.1 r.2.0 r.2.1)
    (Decides-not _ (decides_some (λ t. live t && same t s) (λ t. (live t ≡ true) × (same t s ≡ true)) (λ t. Decides-and _ _ (decides_self (live t)) (decides_self (same t s))) s)))

-- the first of the class of s
abbrev pub lead : (ℕ → Bool) → (ℕ → ℕ → Bool) → ℕ → ℕ
lead live same s = least (λ t. live t && same t s) s

module _ (live : ℕ → Bool) (same : ℕ → ℕ → Bool) (eq : Equivalence same) where
  pub leader : (s : ℕ) → live s ≡ true → First live same (lead live same s) × (same (lead live same s) s ≡ true)
  leader s l =
      let f = lead live same s in
      let r = least_of (λ t. live t && same t s) s (and_from _ _ l (eq.reflexive s)) in
      let here = and_parts (live f) (same f s) r.0 in
      ((here.0, λ t k x y. r.1 t k (and_from _ _ x (eq.transitive t f s y here.1))), here.1)

  -- a class has one first member
  pub leader_one : (s t : ℕ) → First live same s → First live same t → same s t ≡ true → s ≡ t
  leader_one s t f g e =
      ⊎_elim (λ h. h)
      (λ h. ⊎_elim (λ (l : s < t). absurd (g.1 s l f.0 e)) (λ (l : t < s). absurd (f.1 t l g.0 (eq.symmetric s t e))) h)
      (cases_order s t)

-- how many classes the states below n have
abbrev pub firsts : (ℕ → Bool) → (ℕ → ℕ → Bool) → ℕ → ℕ
firsts live same n = number (first live same) n

module _ (live : ℕ → Bool) (n : ℕ) (inside : (s : ℕ) → live s ≡ true → s < n) (coarse fine : ℕ → ℕ → Bool) (finer : (s t : ℕ) → live s ≡ true → live t ≡ true → fine s t ≡ true → coarse s t ≡ true) where
  first_finer : (s : ℕ) → s < n → first live coarse s ≡ true → first live fine s ≡ true
  first_finer s _ h =
      let f = (first_decided live coarse s).0 h in
      (first_decided live fine s).1 (f.0, λ t l x y. f.1 t l x (finer t s x f.0 y))

  -- a finer equivalence has as many classes or more
  pub firsts_rise : firsts live coarse n ≤ firsts live fine n
  firsts_rise = number_le (first live coarse) (first live fine) n first_finer

  -- where it has as many, it is no finer
  pub firsts_same : Equivalence coarse → Equivalence fine → firsts live fine n ≤ firsts live coarse n → (s t : ℕ) → live s ≡ true → live t ≡ true → coarse s t ≡ true → fine s t ≡ true
  firsts_same c f few s t ls lt e =
      let a = lead live fine s in
      let b = lead live fine t in
      let sa = leader live fine f s ls in
      let tb = leader live fine f t lt in
      let as_coarse : (x : ℕ) → First live fine x → First live coarse x = λ x h. (first_decided live coarse x).0 (number_back (first live coarse) (first live fine) n first_finer few x (inside x h.0) ((first_decided live fine x).1 h)) in
      let to_s : coarse a s ≡ true = finer a s sa.0.0 ls sa.1 in
      let to_t : coarse t b ≡ true = c.symmetric b t (finer b t tb.0.0 lt tb.1) in
      let joint : coarse a b ≡ true = c.transitive a s b to_s (c.transitive s t b e to_t) in
      let one : a ≡ b = leader_one live coarse c a b (as_coarse a sa.0) (as_coarse b tb.0) joint in
      f.transitive s a t (f.symmetric a s sa.1) (subst (λ (x : ℕ). fine x t ≡ true) (sym one) tb.1)

-- the first members before the first of the class of s: a number of the class
abbrev pub rank : (ℕ → Bool) → (ℕ → ℕ → Bool) → ℕ → ℕ
rank live same s = number (first live same) (lead live same s)

module _ (live : ℕ → Bool) (n : ℕ) (inside : (s : ℕ) → live s ≡ true → s < n) (same : ℕ → ℕ → Bool) (Same : ℕ → ℕ → Type 0) (decided : (s t : ℕ) → Decides (same s t) (Same s t)) (eq : Equivalence same) where
  pub by_rank : Numbers live Same (firsts live same n) (rank live same)
  by_rank = record { below = below; occurs = occurs; equal = λ s t x y. (λ e. (decided s t).0 (apart s t x y e), λ h. ap (number (first live same)) (together s t x y ((decided s t).1 h))) }
    where
      is_first : (s : ℕ) → live s ≡ true → first live same (lead live same s) ≡ true
      is_first s l = (first_decided live same (lead live same s)).1 (leader live same eq s l).0

      below : (s : ℕ) → live s ≡ true → rank live same s < firsts live same n
      below s l =
          let f = lead live same s in
          number_lower (first live same) f n (inside f (leader live same eq s l).0.0) (is_first s l)

      occurs : (c : ℕ) → c < firsts live same n → (s : ℕ) × (live s ≡ true) × (rank live same s ≡ c)
      occurs c l =
          let r = number_onto (first live same) n c l in
          let f = (first_decided live same r.0).0 r.2 in
          let is = leader live same eq r.0 f.0 in
          let self : lead live same r.0 ≡ r.0 = leader_one live same eq (lead live same r.0) r.0 is.0 f is.1 in
          (r.0, f.0, ap (number (first live same)) self ∙ r.3)

      apart : (s t : ℕ) → live s ≡ true → live t ≡ true → rank live same s ≡ rank live same t → same s t ≡ true
      apart s t x y e =
          let a = lead live same s in
          let b = lead live same t in
          let one : a ≡ b = number_apart (first live same) a b (is_first s x) (is_first t y) e in
          let to_t : same a t ≡ true = subst (λ (v : ℕ). same v t ≡ true) (sym one) (leader live same eq t y).1 in
          eq.transitive s a t (eq.symmetric a s (leader live same eq s x).1) to_t

      together : (s t : ℕ) → live s ≡ true → live t ≡ true → same s t ≡ true → lead live same s ≡ lead live same t
      together s t x y h =
          let a = lead live same s in
          let b = lead live same t in
          let sa = leader live same eq s x in
          let tb = leader live same eq t y in
          leader_one live same eq a b sa.0 tb.0 (eq.transitive a s b sa.1 (eq.transitive s t b h (eq.symmetric b t tb.1)))
