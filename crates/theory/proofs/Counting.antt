-- How many numbers are in a set, and the least that is.
use Rattle.std.proofs.Common.{◌≡◌, ℕ, zero, suc, ◌<◌, ◌≤◌, Bool, true, false, cond, ltb, ◌⊎◌, sym, refl, ap, ◌∙◌, inl, inr, ⊎_elim, arith}
use Rattle.std.proofs.lemmas.Bool.{cases_lt, cases_order, cases_Bool, both_ways, lt-ltb}
use Rattle.theory.specs.Classes.{number}

pub bool_same : (x y : Bool) → (x ≡ true → y ≡ true) → (y ≡ true → x ≡ true) → x ≡ y
bool_same true true f g = refl
bool_same true false f g = sym (f refl)
bool_same false true f g = g refl
bool_same false false f g = refl

-- what a number counts by its test
abbrev bit : Bool → ℕ
bit x = cond x 1 0

bit_le : (x y : Bool) → (x ≡ true → y ≡ true) → bit x ≤ bit y
bit_le true y f = rw (f refl) (omega arith)
bit_le false y f = omega arith

bit_back : (x y : Bool) → bit y ≤ bit x → y ≡ true → x ≡ true
bit_back true y l e = refl
bit_back false y l e = let l' : 1 ≤ 0 = rw e at l in let b : ⊥ = omega arith in absurd b

bit_none : (x : Bool) → (x ≡ true → ⊥) → bit x ≡ 0
bit_none true f = absurd (f refl)
bit_none false f = refl

pub number_le : (p q : ℕ → Bool) (n : ℕ) → ((s : ℕ) → s < n → p s ≡ true → q s ≡ true) → number p n ≤ number q n
number_le p q zero f = omega arith
number_le p q (suc n) f = omega (arith, number_le p q n (λ s l. f s (omega arith)), bit_le (p n) (q n) (f n (omega arith)))

pub number_same : (p q : ℕ → Bool) (n : ℕ) → ((s : ℕ) → s < n → p s ≡ q s) → number p n ≡ number q n
number_same p q n f =
    omega (arith, number_le p q n (λ s l e. sym (f s l) ∙ e), number_le q p n (λ s l e. f s l ∙ e))

-- a part that counts as many is the whole
pub number_back : (p q : ℕ → Bool) (n : ℕ) → ((s : ℕ) → s < n → p s ≡ true → q s ≡ true) → number q n ≤ number p n → (s : ℕ) → s < n → q s ≡ true → p s ≡ true
number_back p q zero f c s l e = let b : ⊥ = omega arith in absurd b
number_back p q (suc n) f c s l e =
    let here = bit_le (p n) (q n) (f n (omega arith)) in
    let below = number_le p q n (λ x k. f x (omega arith)) in
    ⊎_elim
    (λ (k : s < n). number_back p q n (λ x i. f x (omega arith)) (omega arith) s k e)
    (λ (k : n ≤ s). let a : s ≡ n = omega arith in rw a (bit_back (p n) (q n) (omega arith) (rw a at e)))
    (cases_lt s n)

pub number_none : (p : ℕ → Bool) (n : ℕ) → ((s : ℕ) → s < n → p s ≡ true → ⊥) → number p n ≡ 0
number_none p zero f = refl
number_none p (suc n) f = omega (arith, bit_none (p n) (f n (omega arith)), number_none p n (λ s l. f s (omega arith)))

-- one number more
pub number_more : (p q : ℕ → Bool) (i n : ℕ) → i < n → p i ≡ false → q i ≡ true → ((s : ℕ) → (s ≡ i → ⊥) → p s ≡ q s) → number q n ≡ suc (number p n)
number_more p q i zero l x y f = let b : ⊥ = omega arith in absurd b
number_more p q i (suc n) l x y f =
    ⊎_elim
    (λ (k : i < n). let here : bit (p n) ≡ bit (q n) = ap bit (f n (λ e. omega arith)) in omega (arith, number_more p q i n k x y f))
    (λ (k : n ≤ i).
    let a : i ≡ n = omega arith in
    let c : bit (p n) ≡ 0 = ap bit (rw a at x) in
    let d : bit (q n) ≡ 1 = ap bit (rw a at y) in
    omega (arith, number_same p q n (λ s h. f s (λ e. omega arith))))
    (cases_lt i n)

pub number_rises : (p : ℕ → Bool) (i j : ℕ) → i ≤ j → number p i ≤ number p j
number_rises p i zero l = let e : i ≡ 0 = omega arith in rw e (omega arith)
number_rises p i (suc j) l =
    ⊎_elim
    (λ (k : i < suc j). omega (arith, number_rises p i j (omega arith)))
    (λ (k : suc j ≤ i). let e : i ≡ suc j = omega arith in rw e (omega arith))
    (cases_lt i (suc j))

pub number_lower : (p : ℕ → Bool) (i n : ℕ) → i < n → p i ≡ true → number p i < number p n
number_lower p i n l e = let here : bit (p i) ≡ 1 = ap bit e in omega (arith, number_rises p (suc i) n l)

-- the members of the set are counted apart
pub number_apart : (p : ℕ → Bool) (i j : ℕ) → p i ≡ true → p j ≡ true → number p i ≡ number p j → i ≡ j
number_apart p i j x y e =
    ⊎_elim (λ h. h) (λ h. ⊎_elim (λ (l : i < j). let b : ⊥ = omega (arith, number_lower p i j l x) in absurd b) (λ (l : j < i). let b : ⊥ = omega (arith, number_lower p j i l y) in absurd b) h) (cases_order i j)

-- and each count below the whole is that of a member
pub number_onto : (p : ℕ → Bool) (n c : ℕ) → c < number p n → (i : ℕ) × (i < n) × (p i ≡ true) × (number p i ≡ c)
number_onto p zero c l = let b : ⊥ = omega arith in absurd b
number_onto p (suc n) c l =
    ⊎_elim
    (λ (k : c < number p n). let r = number_onto p n c k in (r.0, omega arith, r.2, r.3))
    (λ (k : number p n ≤ c).
    let e : p n ≡ true = bit_back (p n) true (omega arith) refl in
    let here : bit (p n) ≡ 1 = ap bit e in
    (n, omega arith, e, omega arith))
    (cases_lt c (number p n))

pub number_below : (n k : ℕ) → k ≤ n → number (λ s. ltb s n) k ≡ k
number_below n zero l = refl
number_below n (suc k) l = let c = number_below n k (omega arith) in rw (lt-ltb k n l) (omega arith)

-- k is the least number of the set
abbrev pub Least : (ℕ → Bool) → ℕ → Type 0
Least p k = (p k ≡ true) × ((j : ℕ) → j < k → p j ≡ true → ⊥)

pub find_least : (p : ℕ → Bool) (n : ℕ) → ((k : ℕ) × (k < n) × Least p k) ⊎ ((j : ℕ) → j < n → p j ≡ true → ⊥)
find_least p zero = inr (λ j l e. omega arith)
find_least p (suc n) = ⊎_elim (λ r. inl (r.0, omega arith, r.2)) (λ none. ⊎_elim (λ e. inl (n, omega arith, (e, none))) (λ e. inr (still none e)) (cases_Bool (p n))) (find_least p n)
  where
    still : ((j : ℕ) → j < n → p j ≡ true → ⊥) → p n ≡ false → (j : ℕ) → j < suc n → p j ≡ true → ⊥
    still none e j l h =
        ⊎_elim
        (λ (k : j < n). none j k h)
        (λ (k : n ≤ j). let a : j ≡ n = omega arith in both_ways (p n) e (rw a at h))
        (cases_lt j n)

-- the least of the set up to n, where there is one
abbrev pub least : (ℕ → Bool) → ℕ → ℕ
least p n = ⊎_elim (λ r. r.0) (λ _. 0) (find_least p (suc n))

pub least_of : (p : ℕ → Bool) (n : ℕ) → p n ≡ true → Least p (least p n)
least_of p n e = here (find_least p (suc n))
  where
    here : (x : ((k : ℕ) × (k < suc n) × Least p k) ⊎ ((j : ℕ) → j < suc n → p j ≡ true → ⊥)) → Least p (⊎_elim (λ r. r.0) (λ _. 0) x)
    here (inl r) = r.2
    here (inr none) = absurd (none n (omega arith) e)
