-- What stands in a list.
use Rattle.std.specs.Prelude.{◌≡◌, ℕ, zero, suc, ◌+◌, ◌<◌, ◌≤◌, ◌⊎◌, List, [], ◌∷◌, ◌++◌, map, drop, length, Some, None, slice_index_or, refl}
use Rattle.std.proofs.Common.{zero-add, suc-add, arith, inl, inr, ⊎_elim, sym, ap}
use Rattle.std.specs.List.{slice_get, range_with_len}
use Rattle.lts.specs.Meaning.{Meaning, Lawful, In}

pub in_left : {X : Type 0} (x : X) (xs ys : List X) → In x xs → In x (xs ++ ys)
in_left x [] ys h = absurd h
in_left x (y ∷ xs) ys (inl e) = inl e
in_left x (y ∷ xs) ys (inr h) = inr (in_left x xs ys h)

pub in_right : {X : Type 0} (x : X) (xs ys : List X) → In x ys → In x (xs ++ ys)
in_right x [] ys h = h
in_right x (y ∷ xs) ys h = inr (in_right x xs ys h)

pub in_either : {X : Type 0} (x : X) (xs ys : List X) → In x (xs ++ ys) → In x xs ⊎ In x ys
in_either x [] ys h = inr h
in_either x (y ∷ xs) ys (inl e) = inl (inl e)
in_either x (y ∷ xs) ys (inr h) = ⊎_elim (λ k. inl (inr k)) inr (in_either x xs ys h)

pub in_map : {X Y : Type 0} (f : X → Y) (x : X) (xs : List X) → In x xs → In (f x) (map f xs)
in_map f x [] h = absurd h
in_map f x (y ∷ xs) (inl e) = inl (ap f e)
in_map f x (y ∷ xs) (inr h) = inr (in_map f x xs h)

pub from_map : {X Y : Type 0} (f : X → Y) (y : Y) (xs : List X) → In y (map f xs) → (x : X) × In x xs × (y ≡ f x)
from_map f y [] h = absurd h
from_map f y (x ∷ xs) (inl e) = (x, inl refl, e)
from_map f y (x ∷ xs) (inr h) = let r = from_map f y xs h in (r.0, inr r.1, r.2)

pub in_counting : (k a n : ℕ) → In k (range_with_len a n) → (a ≤ k) × (k < a + n)
in_counting k a zero h = absurd h
in_counting k a (suc n) (inl e) = (omega arith, omega arith)
in_counting k a (suc n) (inr h) = let r = in_counting k (a + 1) n h in (omega arith, omega arith)

-- what is listed at a place stands in the list
pub nth_in : {X : Type 0} (x : X) (xs : List X) (k : ℕ) → slice_get xs k ≡ Some x → In x xs
nth_in x [] k e = let z : ◌≡◌ {A = ℕ} 0 1 = cc in omega arith
nth_in x (y ∷ xs) zero e = let z : x ≡ y = cc in inl z
nth_in x (y ∷ xs) (suc k) e = inr (nth_in x xs k e)

pub in_nth : {X : Type 0} (x : X) (xs : List X) → In x xs → (k : ℕ) × (slice_get xs k ≡ Some x)
in_nth x [] h = absurd h
in_nth x (y ∷ xs) (inl e) = (0, ap Some (sym e))
in_nth x (y ∷ xs) (inr h) = let r = in_nth x xs h in (suc r.0, r.1)

pub nth_map : {X Y : Type 0} (f : X → Y) (xs : List X) (k : ℕ) (x : X) → slice_get xs k ≡ Some x → slice_get (map f xs) k ≡ Some (f x)
nth_map f [] k x e = let z : ◌≡◌ {A = ℕ} 0 1 = cc in let b : ⊥ = omega arith in absurd b
nth_map f (y ∷ xs) zero x e = let z : y ≡ x = cc in ap (λ v. Some (f v)) z
nth_map f (y ∷ xs) (suc k) x e = nth_map f xs k x e

pub nth_map_none : {X Y : Type 0} (f : X → Y) (xs : List X) (k : ℕ) → slice_get xs k ≡ None → slice_get (map f xs) k ≡ None
nth_map_none f [] k e = refl
nth_map_none f (y ∷ xs) zero e = let z : ◌≡◌ {A = ℕ} 0 1 = cc in let b : ⊥ = omega arith in absurd b
nth_map_none f (y ∷ xs) (suc k) e = nth_map_none f xs k e

-- what is listed at a place, by its number
pub nth_inside : {X : Type 0} (x : X) (xs : List X) (k : ℕ) → slice_get xs k ≡ Some x → k < length xs
nth_inside x [] k e = let z : ◌≡◌ {A = ℕ} 0 1 = cc in omega arith
nth_inside x (y ∷ xs) zero e = omega arith
nth_inside x (y ∷ xs) (suc k) e = let h = nth_inside x xs k e in omega arith

pub nth_missing : {X : Type 0} (xs : List X) (k : ℕ) → None ≡ slice_get xs k → length xs ≤ k
nth_missing [] k e = omega arith
nth_missing (y ∷ xs) zero e = let z : ◌≡◌ {A = ℕ} 0 1 = cc in omega arith
nth_missing (y ∷ xs) (suc k) e = let h = nth_missing xs k e in omega arith

pub nth_is : {X : Type 0} (x d : X) (xs : List X) (k : ℕ) → slice_get xs k ≡ Some x → slice_index_or xs k d ≡ x
nth_is x d [] k e = let z : ◌≡◌ {A = ℕ} 0 1 = cc in let b : ⊥ = omega arith in absurd b
nth_is x d (y ∷ xs) zero e = cc
nth_is x d (y ∷ xs) (suc k) e = nth_is x d xs k e

pub nth_left : {X : Type 0} (xs ys : List X) (k : ℕ) → k < length xs → slice_get (xs ++ ys) k ≡ slice_get xs k
nth_left [] ys k h = let b : ⊥ = omega arith in absurd b
nth_left (x ∷ xs) ys zero h = refl
nth_left (x ∷ xs) ys (suc k) h = nth_left xs ys k (omega arith)

pub nth_right : {X : Type 0} (xs ys : List X) (k : ℕ) → slice_get (xs ++ ys) (length xs + k) ≡ slice_get ys k
nth_right [] ys k = rw zero-add
nth_right (x ∷ xs) ys k = rw suc-add (nth_right xs ys k)

-- the step that a source answers for a place keeps the source's bounds
module _ {most : ℕ} (m : Meaning) (law : Lawful most m) (s k a t : ℕ) (at : Some (a, t) ≡ slice_get (m.steps s) k) where
  pub listed_action : a ≤ 63
  listed_action = law.acts s a t (nth_in (a, t) (m.steps s) k (sym at))

  pub listed_target : t < m.count
  listed_target = law.aims s a t (nth_in (a, t) (m.steps s) k (sym at))

-- what is left of a list from place k on: its first stands at place k
pub nth_first : {X : Type 0} (x : X) (xs ys : List X) (k : ℕ) → drop k xs ≡ x ∷ ys → (Some x ≡ slice_get xs k) × (k < length xs) × (ys ≡ drop (k + 1) xs)
nth_first x [] ys zero e = let z : ◌≡◌ {A = ℕ} 0 1 = cc in let b : ⊥ = omega arith in absurd b
nth_first x [] ys (suc k) e = let z : ◌≡◌ {A = ℕ} 0 1 = cc in let b : ⊥ = omega arith in absurd b
nth_first x (y ∷ xs) ys zero e = let z : y ≡ x = cc in let w : xs ≡ ys = cc in (ap Some (sym z), omega arith, sym w)
nth_first x (y ∷ xs) ys (suc k) e = let r = nth_first x xs ys k e in let q : suc k + 1 ≡ suc (k + 1) = omega arith in (r.0, omega arith, rw q r.2)

-- nothing is left only past the end
pub nth_last : {X : Type 0} (xs : List X) (k : ℕ) → drop k xs ≡ [] → length xs ≤ k
nth_last [] k e = omega arith
nth_last (y ∷ xs) zero e = let z : ◌≡◌ {A = ℕ} 0 1 = cc in omega arith
nth_last (y ∷ xs) (suc k) e = let h = nth_last xs k e in omega arith
