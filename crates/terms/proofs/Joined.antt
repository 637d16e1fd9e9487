-- What stands where in two lists joined.
use Rattle.std.proofs.Common.{◌≡◌, ℕ, zero, suc, ◌+◌, ◌⊎◌, List, [], ◌∷◌, ◌++◌, map, length, Some, refl, inl, inr, ⊎_elim, arith}
use Rattle.std.specs.List.{slice_get}

pub nth_first : {X : Type 0} (x : X) (xs ys : List X) (k : ℕ) → slice_get xs k ≡ Some x → slice_get (xs ++ ys) k ≡ Some x
nth_first x [] ys k e = cc
nth_first x (y ∷ xs) ys zero e = e
nth_first x (y ∷ xs) ys (suc k) e = nth_first x xs ys k e

pub nth_either : {X : Type 0} (x : X) (xs ys : List X) (k : ℕ) → slice_get (xs ++ ys) k ≡ Some x → (slice_get xs k ≡ Some x) ⊎ ((m : ℕ) × (k ≡ length xs + m) × (slice_get ys m ≡ Some x))
nth_either x [] ys k e = inr (k, omega arith, e)
nth_either x (y ∷ xs) ys zero e = inl e
nth_either x (y ∷ xs) ys (suc k) e = ⊎_elim inl (λ r. inr (r.0, omega (arith, r.1), r.2)) (nth_either x xs ys k e)

pub nth_from_map : {X Y : Type 0} (f : X → Y) (y : Y) (xs : List X) (k : ℕ) → slice_get (map f xs) k ≡ Some y → (x : X) × (slice_get xs k ≡ Some x) × (y ≡ f x)
nth_from_map f y [] k e = cc
nth_from_map f y (x ∷ xs) zero e = let same : y ≡ f x = cc in (x, refl, same)
nth_from_map f y (x ∷ xs) (suc k) e = nth_from_map f y xs k e
