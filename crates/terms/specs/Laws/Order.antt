-- In a term whose actions are numbered in text order, the targets of each state's steps rise.
use Rattle.std.specs.Prelude.{◌≡◌, ℕ, ◌+◌, ◌<◌, ◌≤◌, List, [], ◌∷◌, ◌++◌, map, length, refl}
use Rattle.std.proofs.Common.{add_assoc, arith, inl, inr, ⊎_elim, ap}
use Rattle.lts.specs.Meaning.{In}
use Rattle.lts.specs.Laws.Member.{in_either, from_map}
use Rattle.terms.specs.Syntax.{Tree, leaf, choice, sequence, size, Numbered, Rest, done, left}
use Rattle.terms.specs.Graph.{followed, rests, firsts, Rises}

-- every action is at most 63, and the targets rise from above `low` to `high` at most
abbrev pub Within : ℕ → ℕ → List (ℕ × ℕ) → Type 0
Within low high [] = low ≤ high
Within low high (step ∷ steps) = (step.0 ≤ 63) × (low < step.1) × Within step.1 high steps

pub within_more : (low low' high high' : ℕ) (xs : List (ℕ × ℕ)) → low ≤ low' → high' ≤ high → Within low' high' xs → Within low high xs
within_more low low' high high' [] l h w = omega arith
within_more low low' high high' (x ∷ xs) l h w =
    (w.0, omega arith, within_more x.1 x.1 high high' xs (omega arith) h w.2)

pub within_join : (low mid high : ℕ) (xs ys : List (ℕ × ℕ)) → Within low mid xs → Within mid high ys → Within low high (xs ++ ys)
within_join low mid high [] ys v w = within_more low mid high high ys v (omega arith) w
within_join low mid high (x ∷ xs) ys v w = (v.0, v.1, within_join x.1 mid high xs ys v.2 w)

pub within_rises : (low high : ℕ) (xs : List (ℕ × ℕ)) → Within low high xs → Rises low xs
within_rises low high [] w = tt
within_rises low high (x ∷ xs) w = (w.1, within_rises x.1 high xs w.2)

pub within_length : (low high : ℕ) (xs : List (ℕ × ℕ)) → Within low high xs → low + length xs ≤ high
within_length low high [] w = omega arith
within_length low high (x ∷ xs) w = let h = within_length x.1 high xs w.2 in omega arith

pub within_each : (low high a i : ℕ) (xs : List (ℕ × ℕ)) → Within low high xs → In (a, i) xs → (a ≤ 63) × (i ≤ high)
within_each low high a i [] w h = absurd h
within_each low high a i (x ∷ xs) w (inl e) =
    let l = within_length x.1 high xs w.2 in
    let action : a ≡ x.0 = ap (λ (v : ℕ × ℕ). v.0) e in
    let place : i ≡ x.1 = ap (λ (v : ℕ × ℕ). v.1) e in
    (omega arith, omega arith)
within_each low high a i (x ∷ xs) w (inr h) = within_each x.1 high a i xs w.2 h

-- of the first part of a term, and of the second, so of the whole
within_first : (i m n : ℕ) (xs : List (ℕ × ℕ)) → Within i (i + m) xs → Within i (i + (m + n)) xs
within_first i m n xs = within_more i i (i + (m + n)) (i + m) xs (omega arith) (omega arith)

within_second : (i m n : ℕ) (xs : List (ℕ × ℕ)) → Within (i + m) (i + m + n) xs → Within i (i + (m + n)) xs
within_second i m n xs = within_more i (i + m) (i + (m + n)) (i + m + n) xs (omega arith) (omega arith)

pub firsts_within : (i : ℕ) (t : Tree) → Numbered i t → Within i (i + size t) (firsts t)
firsts_within i (leaf a j) h = (h.0, omega arith, omega arith)
firsts_within i (choice x y) h =
    let second = firsts_within (i + size x) y h.1 in
    within_join i (i + size x) (i + (size x + size y)) (firsts x) (firsts y) (firsts_within i x h.0) (rw add_assoc at second)
firsts_within i (sequence x y) h = within_first i (size x) (size y) (firsts x) (firsts_within i x h.0)

-- what remains after an action of a sequence: the second part, or what remains of the first and then the second
followed_within : (i : ℕ) (u v x : Tree) (q : Rest Tree) → Numbered (i + size u) v → ((y : Tree) → q ≡ left y → Within i (i + size u) (firsts y)) → left x ≡ followed v q → Within i (i + (size u + size v)) (firsts x)
followed_within i u v x done n w e =
    let same : firsts v ≡ firsts x = cc in
    rw same at (within_second i (size u) (size v) (firsts v) (firsts_within (i + size u) v n))
followed_within i u v x (left y) n w e =
    let same : sequence y v ≡ x = cc in
    rw (ap firsts same) at (within_first i (size u) (size v) (firsts y) (w y refl))

-- the same of what remains after an action
pub rests_within : (i : ℕ) (t x : Tree) → Numbered i t → In (left x) (rests t) → Within i (i + size t) (firsts x)
rests_within i (leaf a j) x n (inl e) = cc
rests_within i (leaf a j) x n (inr h) = absurd h
rests_within i (choice u v) x n h =
    ⊎_elim
    (λ k. within_first i (size u) (size v) (firsts x) (rests_within i u x n.0 k))
    (λ k. within_second i (size u) (size v) (firsts x) (rests_within (i + size u) v x n.1 k))
    (in_either (left x) (rests u) (rests v) h)
rests_within i (sequence u v) x n h =
    ⊎_elim
    (λ k. let r = from_map (followed v) (left x) (rests u) k in followed_within i u v x r.0 n.1 (λ y e. rests_within i u y n.0 (rw e at r.1)) r.2)
    (λ k. within_second i (size u) (size v) (firsts x) (rests_within (i + size u) v x n.1 k))
    (in_either (left x) (map (followed v) (rests u)) (rests v) h)
