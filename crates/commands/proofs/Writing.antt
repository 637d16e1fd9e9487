-- Texts written one behind another, cut off at 32 bytes.
use Rattle.std.proofs.Common.{◌≡◌, ℕ, zero, suc, ◌+◌, ◌/◌, ◌%◌, ◌^◌, ◌<◌, ◌≤◌, List, [], ◌∷◌, ◌++◌, length, get_or, take, set, decimal, sym, refl, ap, ◌∙◌, append_assoc, append-nil, arith, take_all, take_at}
use Rattle.std.proofs.lemmas.List.{take_more, take_more_set, length-take-le, length_push}
use Rattle.std.proofs.lemmas.Fmt.{decimal_step}

cut : (n : ℕ) (xs ys : List ℕ) → take n (take n xs ++ ys) ≡ take n (xs ++ ys)
cut zero xs ys = refl
cut (suc n) [] ys = refl
cut (suc n) (x ∷ xs) ys = ap (λ zs. x ∷ zs) (cut n xs ys)

-- one text behind another
pub adds_then : (x : List ℕ) {y z : List ℕ} (a b : List ℕ) → y ≡ take 32 (x ++ a) → z ≡ take 32 (y ++ b) → z ≡ take 32 (x ++ (a ++ b))
adds_then x {y} {z} a b e f = f ∙ (ap (λ w. take 32 (w ++ b)) e ∙ (cut 32 (x ++ a) b ∙ ap (take 32) (append_assoc x a b)))

-- no text
pub adds_none : (x : List ℕ) → length x ≤ 32 → x ≡ take 32 (x ++ [])
adds_none x l = rw append-nil (sym (take_all 32 x l))

-- a whole text, from an empty output
pub holds : (x : List ℕ) {y : List ℕ} (a : List ℕ) → x ≡ [] → y ≡ take 32 (x ++ a) → y ≡ take 32 a
holds x a e f = f ∙ ap (λ w. take 32 (w ++ a)) e

module _ (bytes : List ℕ) (used : ℕ) (room : length bytes ≡ 32) where
  pub short : used ≤ 32 → length (take used bytes) ≡ used
  short l = length-take-le used bytes (omega arith)

  -- a byte where there is room
  pub push_byte : (b : ℕ) → used < 32 → take (used + 1) (set bytes used b) ≡ take 32 (take used bytes ++ b ∷ [])
  push_byte b l =
      let n = short (omega arith) in
      let m = length_push (take used bytes) b in
      take_more_set bytes used b (omega arith) ∙ sym (take_all 32 (take used bytes ++ b ∷ []) (omega arith))

  -- and where there is none
  pub push_none : (b : ℕ) → 32 ≤ used → used ≤ 32 → take used bytes ≡ take 32 (take used bytes ++ b ∷ [])
  push_none b l m = let n = short m in sym (take_at (take used bytes) (b ∷ []) 32 (omega arith))

-- one byte more of a text
pub adds_more : (x : List ℕ) {y z : List ℕ} (text : List ℕ) (i : ℕ) → i < length text → y ≡ take 32 (x ++ take i text) → z ≡ take 32 (y ++ get_or text i 0 ∷ []) → z ≡ take 32 (x ++ take (i + 1) text)
adds_more x text i l e f = rw (take_more text i 0 l) (adds_then x (take i text) (get_or text i 0 ∷ []) e f)

-- the last digit behind the others
pub adds_digit : (x : List ℕ) {y z : List ℕ} (n : ℕ) → 10 ≤ n → n < 2 ^ 64 → y ≡ take 32 (x ++ decimal (n / 10)) → z ≡ take 32 (y ++ (48 + n % 10) ∷ []) → z ≡ take 32 (x ++ decimal n)
adds_digit x n l m e f = rw (decimal_step n l m) (adds_then x (decimal (n / 10)) ((48 + n % 10) ∷ []) e f)
