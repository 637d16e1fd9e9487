-- The steps of a term with the places of their actions, and what remains at each place.
use Rattle.std.proofs.Common.{◌≡◌, ℕ, zero, suc, ◌+◌, ◌⊎◌, List, ◌++◌, map, length, Some, sym, refl, ap, ◌∙◌, inl, inr, ⊎_elim, arith}
use lib.ListN.{length-map}
use Rattle.std.specs.List.{slice_get}
use Rattle.lts.specs.Meaning.{In}
use Rattle.lts.specs.Laws.Member.{in_left, in_right, in_either, nth_map, nth_right}
use Rattle.terms.specs.Syntax.{Tree, leaf, choice, sequence, size, Rest, done, left, Numbered}
use Rattle.terms.specs.Rules.{Process, ◌⊙◌, Derives, act_done, choice_left, choice_right, sequence_done, sequence_left, plain, plain_rest}
use Rattle.terms.specs.Graph.{followed, rests, contents, firsts}
use Rattle.terms.specs.Laws.Lawful.{length_rests}
use Rattle.terms.proofs.Joined.{nth_first, nth_either, nth_from_map}

-- t takes the action a, written at place i, and r remains
abbrev pub Steps : Tree → ℕ → ℕ → Rest Tree → Type 0
Steps (leaf b j) a i r = (a ≡ b) × (i ≡ j) × (r ≡ done)
Steps (choice x y) a i r = Steps x a i r ⊎ Steps y a i r
Steps (sequence x y) a i r = (q : Rest Tree) × Steps x a i q × (r ≡ followed y q)

-- r remains after the action of t written at place i
abbrev pub Remains : Tree → ℕ → Rest Tree → Type 0
Remains (leaf b j) i r = (i ≡ j) × (r ≡ done)
Remains (choice x y) i r = Remains x i r ⊎ Remains y i r
Remains (sequence x y) i r = ((q : Rest Tree) × Remains x i q × (r ≡ followed y q)) ⊎ Remains y i r

-- the first actions are those that a step takes
pub step_of_first : (x : Tree) (a i : ℕ) → In (a, i) (firsts x) → (r : Rest Tree) × Steps x a i r
step_of_first (leaf b j) a i (inl e) = (done, (ap (λ (v : ℕ × ℕ). v.0) e, ap (λ (v : ℕ × ℕ). v.1) e, refl))
step_of_first (leaf b j) a i (inr h) = absurd h
step_of_first (choice x y) a i h =
    ⊎_elim
    (λ k. let s = step_of_first x a i k in (s.0, inl s.1))
    (λ k. let s = step_of_first y a i k in (s.0, inr s.1))
    (in_either (a, i) (firsts x) (firsts y) h)
step_of_first (sequence x y) a i h = let s = step_of_first x a i h in (followed y s.0, (s.0, s.1, refl))

pub first_of_step : (x : Tree) (a i : ℕ) (r : Rest Tree) → Steps x a i r → In (a, i) (firsts x)
first_of_step (leaf b j) a i r s = inl (cc (s.0, s.1))
first_of_step (choice x y) a i r (inl s) = in_left (a, i) (firsts x) (firsts y) (first_of_step x a i r s)
first_of_step (choice x y) a i r (inr s) = in_right (a, i) (firsts x) (firsts y) (first_of_step y a i r s)
first_of_step (sequence x y) a i r s = first_of_step x a i s.0 s.1

-- the rules derive each step
sequence_derives : (x : Process) (y : Tree) (a : ℕ) (q : Rest Tree) → Derives x a (plain_rest q) → Derives (x ⊙ plain y) a (plain_rest (followed y q))
sequence_derives x y a done d = sequence_done d
sequence_derives x y a (left u) d = sequence_left d

pub derived : (x : Tree) (a i : ℕ) (r : Rest Tree) → Steps x a i r → Derives (plain x) a (plain_rest r)
derived (leaf b j) a i r s = rw (s.0, s.2) act_done
derived (choice x y) a i r (inl s) = choice_left (derived x a i r s)
derived (choice x y) a i r (inr s) = choice_right (derived y a i r s)
derived (sequence x y) a i r s = rw s.2 (sequence_derives (plain x) y a s.0 (derived x a i s.0 s.1))

-- and no others
plain_done : (y : Tree) (q : Rest Tree) → plain_rest q ≡ done → plain_rest (followed y q) ≡ left (plain y)
plain_done y done e = refl
plain_done y (left u) e = cc

plain_left : (y : Tree) (q : Rest Tree) (p : Process) → plain_rest q ≡ left p → plain_rest (followed y q) ≡ left (p ⊙ plain y)
plain_left y done p e = cc
plain_left y (left u) p e = let same : plain u ≡ p = cc in ap (λ v. left (v ⊙ plain y)) same

pub stepped : (x : Tree) (a : ℕ) (r : Rest Process) → Derives (plain x) a r → (i : ℕ) × (r' : Rest Tree) × Steps x a i r' × (plain_rest r' ≡ r)
stepped (leaf b j) a r act_done = (j, done, (refl, refl, refl), refl)
stepped (choice x y) a r (choice_left d) = let s = stepped x a r d in (s.0, s.1, inl s.2, s.3)
stepped (choice x y) a r (choice_right d) = let s = stepped y a r d in (s.0, s.1, inr s.2, s.3)
stepped (sequence x y) a r (sequence_done d) =
    let s = stepped x a done d in
    (s.0, followed y s.1, (s.1, s.2, refl), plain_done y s.1 s.3)
stepped (sequence x y) a r (sequence_left {x' = p} d) =
    let s = stepped x a (left p) d in
    (s.0, followed y s.1, (s.1, s.2, refl), plain_left y s.1 p s.3)

-- what remains of a step remains at its place
pub remains_of_step : (x : Tree) (a i : ℕ) (r : Rest Tree) → Steps x a i r → Remains x i r
remains_of_step (leaf b j) a i r s = (s.1, s.2)
remains_of_step (choice x y) a i r (inl s) = inl (remains_of_step x a i r s)
remains_of_step (choice x y) a i r (inr s) = inr (remains_of_step y a i r s)
remains_of_step (sequence x y) a i r s = inl (s.0, remains_of_step x a i s.0 s.1, s.2)

-- also of a step of what remained
remains_behind : (u v x : Tree) (a i : ℕ) (r q : Rest Tree) → ((y : Tree) (r' : Rest Tree) → q ≡ left y → Steps y a i r' → Remains u i r') → left x ≡ followed v q → Steps x a i r → Remains (sequence u v) i r
remains_behind u v x a i r done h e m =
    let same : x ≡ v = cc in
    inr (remains_of_step v a i r (rw same at m))
remains_behind u v x a i r (left y) h e m =
    let same : x ≡ sequence y v = cc in
    let m' : Steps (sequence y v) a i r = rw same at m in
    inl (m'.0, h y m'.0 refl m'.1, m'.2)

pub remains_of_rest : (t x : Tree) (s a i : ℕ) (r : Rest Tree) → Remains t s (left x) → Steps x a i r → Remains t i r
remains_of_rest (leaf b j) x s a i r h m =
    let e = h.1 in
    cc
remains_of_rest (choice u v) x s a i r (inl h) m = inl (remains_of_rest u x s a i r h m)
remains_of_rest (choice u v) x s a i r (inr h) m = inr (remains_of_rest v x s a i r h m)
remains_of_rest (sequence u v) x s a i r (inl h) m =
    remains_behind u v x a i r h.0 (λ y r' e. remains_of_rest u y s a i r' (rw e at h.1)) h.2 m
remains_of_rest (sequence u v) x s a i r (inr h) m = inr (remains_of_rest v x s a i r h m)

-- Where the actions are numbered, what remains at a place stands there in the list.
abbrev Stands : ℕ → ℕ → List (Rest Tree) → Rest Tree → Type 0
Stands j i rs r = (k : ℕ) × (i ≡ suc (j + k)) × (slice_get rs k ≡ Some r)

length_followed : (x y : Tree) → length (map (followed y) (rests x)) ≡ size x
length_followed x y = length-map (rests x) (followed y) ∙ length_rests x

stands_second : (j m i : ℕ) (xs ys : List (Rest Tree)) (r : Rest Tree) → length xs ≡ m → Stands (j + m) i ys r → Stands j i (xs ++ ys) r
stands_second j m i xs ys r l p = (length xs + p.0, omega (arith, p.1), nth_right xs ys p.0 ∙ p.2)

pub placed : (j : ℕ) (t : Tree) (i : ℕ) (r : Rest Tree) → Numbered j t → Remains t i r → Stands j i (rests t) r
placed j (leaf b l) i r n h = (0, omega (arith, n.1, h.0), ap Some (sym h.1))
placed j (choice x y) i r n (inl h) =
    let p = placed j x i r n.0 h in
    (p.0, p.1, nth_first r (rests x) (rests y) p.0 p.2)
placed j (choice x y) i r n (inr h) =
    stands_second j (size x) i (rests x) (rests y) r (length_rests x) (placed (j + size x) y i r n.1 h)
placed j (sequence x y) i r n (inl h) =
    let p = placed j x i h.0 n.0 h.1 in
    let e = nth_map (followed y) (rests x) p.0 h.0 p.2 in
    (p.0, p.1, rw h.2 (nth_first (followed y h.0) (map (followed y) (rests x)) (rests y) p.0 e))
placed j (sequence x y) i r n (inr h) =
    stands_second j (size x) i (map (followed y) (rests x)) (rests y) r (length_followed x y) (placed (j + size x) y i r n.1 h)

remains_at : (t : Tree) (r : Rest Tree) {i k : ℕ} → i ≡ k → Remains t i r → Remains t k r
remains_at t r e h = rw e at h

pub remaining : (j : ℕ) (t : Tree) (k : ℕ) (r : Rest Tree) → Numbered j t → slice_get (rests t) k ≡ Some r → Remains t (suc (j + k)) r
remaining j (leaf b l) zero r n h = (omega (arith, n.1), cc)
remaining j (leaf b l) (suc k) r n h = cc
remaining j (choice x y) k r n h =
    ⊎_elim
    (λ e. inl (remaining j x k r n.0 e))
    (λ p. inr (remains_at y r (omega (arith, p.1, length_rests x)) (remaining (j + size x) y p.0 r n.1 p.2)))
    (nth_either r (rests x) (rests y) k h)
remaining j (sequence x y) k r n h =
    ⊎_elim
    (λ e. let q = nth_from_map (followed y) r (rests x) k e in inl (q.0, remaining j x k q.0 n.0 q.1, q.2))
    (λ p. inr (remains_at y r (omega (arith, p.1, length_followed x y)) (remaining (j + size x) y p.0 r n.1 p.2)))
    (nth_either r (map (followed y) (rests x)) (rests y) k h)

-- what a step of a state leaves is what the state at the step's place holds
pub reached : (t : Tree) → Numbered 0 t → (s : ℕ) (x : Tree) (a i : ℕ) (r : Rest Tree) → slice_get (contents t) s ≡ Some (left x) → Steps x a i r → slice_get (contents t) i ≡ Some r
reached t n s x a i r h m =
    let p = placed 0 t i r n (held s h) in
    let e : i ≡ suc p.0 = omega (arith, p.1) in
    rw e p.2
  where
    held : (s : ℕ) → slice_get (contents t) s ≡ Some (left x) → Remains t i r
    held zero e = let same : x ≡ t = cc in remains_of_step t a i r (rw same at m)
    held (suc k) e = remains_of_rest t x (suc (0 + k)) a i r (remaining 0 t k (left x) n e) m
