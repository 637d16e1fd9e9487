-- Runs of steps: what is listed behind them leaves them as they are.
use Rattle.std.proofs.Common.{◌≡◌, ℕ, zero, suc, ◌+◌, ◌<◌, ◌≤◌, List, ◌∷◌, ◌++◌, length, sym, refl, ap, ◌∙◌, add-zero, zero-add, arith, length-append}
use Rattle.lts.specs.Layout.{step_at, run}
use Rattle.lts.specs.declared.laid.Laid.{Laid}
use Rattle.lts.specs.declared.laid.Run.{Run}
use Rattle.terms.specs.Lists.{Shows, Keeps, Listed}
use Rattle.terms.specs.declared.listing.Listing.{Listing}

-- a run depends on its own steps only
pub run_same : (p q : Laid 64 63) (a n : ℕ) → ((k : ℕ) → k < a + n → step_at q k ≡ step_at p k) → run q a n ≡ run p a n
run_same p q a zero h = refl
run_same p q a (suc n) h =
    let e = h a (omega arith) in
    let f = run_same p q (a + 1) n (λ k l. h k (omega arith)) in
    λ i. e i ∷ f i

-- two runs in a row
pub run_join : (p : Laid 64 63) (a m n : ℕ) → run p a (m + n) ≡ run p a m ++ run p (a + m) n
run_join p a zero n = rw (zero-add, add-zero)
run_join p a (suc m) n =
    let e : suc m + n ≡ suc (m + n) = omega arith in
    let f : a + suc m ≡ a + 1 + m = omega arith in
    rw (e, f) (ap (λ xs. step_at p a ∷ xs) (run_join p (a + 1) m n))

pub keeps_keeps : (l l₁ l₂ : Listing) → l.laid.states ≤ l₁.laid.states → Keeps l l₁ → Keeps l₁ l₂ → Keeps l l₂
keeps_keeps l l₁ l₂ s j k =
    let m = j.more in
    let n = k.more in
    record {
      more = omega arith;
      steps = λ i h. k.steps i (omega arith) ∙ j.steps i h;
      runs = λ i h. k.runs i (omega arith) ∙ j.runs i h;
    }

pub shows_more : (l l' : Listing) (r : Run) (xs : List (ℕ × ℕ)) → Keeps l l' → Shows l r xs → Shows l' r xs
shows_more l l' r xs k s =
    let m = k.more in
    let i = s.inside in
    record { inside = omega arith; steps = run_same l.laid l'.laid r.from r.count (λ j h. k.steps j (omega arith)) ∙ s.steps }

-- steps listed behind steps
pub listed_join : (l l₁ l₂ : Listing) (xs ys : List (ℕ × ℕ)) → Listed l xs l₁ → Listed l₁ ys l₂ → Listed l (xs ++ ys) l₂
listed_join l l₁ l₂ xs ys j k =
    let n = length-append xs ys in
    let s = j.states in
    let a = j.added in
    let b = k.added in
    let first : run l₂.laid l.listed (length xs) ≡ xs = run_same l₁.laid l₂.laid l.listed (length xs) (λ i h. k.keeps.steps i (omega arith)) ∙ j.steps in
    let second : run l₂.laid (l.listed + length xs) (length ys) ≡ ys = rw (sym a) k.steps in
    record {
      keeps = keeps_keeps l l₁ l₂ (omega arith) j.keeps k.keeps;
      added = omega arith;
      steps = ap (run l₂.laid l.listed) n ∙ run_join l₂.laid l.listed (length xs) (length ys) ∙ (λ i. first i ++ second i);
      states = k.states ∙ s;
    }
