-- Lines read from numbers.
use Rattle.std.proofs.Common.{◌≡◌, ℕ, ◌+◌, ◌*◌, ◌/◌, ◌<◌, ◌≤◌, List, [], ◌∷◌, ◌++◌, length, get_or, take, set, sym, refl, ap, ◌∙◌, subst, append_assoc, append-nil, arith}
use Rattle.std.proofs.lemmas.List.{take_more_set}
use Rattle.formulas.specs.declared.line.Line.{Line}
use Rattle.embed.specs.Numbers.{line_of, lines_of}

-- as many lines as there are three numbers for
counted : (ns : List ℕ) → (3 * length (lines_of ns) ≤ length ns) × (length ns < 3 * length (lines_of ns) + 3)
counted [] = (omega arith, omega arith)
counted (a ∷ []) = (omega arith, omega arith)
counted (a ∷ b ∷ []) = (omega arith, omega arith)
counted (a ∷ b ∷ c ∷ ns) = let h = counted ns in (omega arith, omega arith)

pub lines_length : (ns : List ℕ) → length (lines_of ns) ≡ length ns / 3
lines_length ns = let h = counted ns in omega arith

-- three numbers in front make the first line
lines_front : (xs rest : List ℕ) → length xs ≡ 3 → lines_of (xs ++ rest) ≡ line_of (get_or xs 0 0) (get_or xs 1 0) (get_or xs 2 0) ∷ lines_of rest
lines_front [] rest e = let b : ⊥ = omega arith in absurd b
lines_front (a ∷ []) rest e = let b : ⊥ = omega arith in absurd b
lines_front (a ∷ b ∷ []) rest e = let b : ⊥ = omega arith in absurd b
lines_front (a ∷ b ∷ c ∷ []) rest e = refl
lines_front (a ∷ b ∷ c ∷ d ∷ xs) rest e = let b : ⊥ = omega arith in absurd b

lines_end : (ns : List ℕ) → length ns < 3 → lines_of ns ≡ []
lines_end [] l = refl
lines_end (a ∷ []) l = refl
lines_end (a ∷ b ∷ []) l = refl
lines_end (a ∷ b ∷ c ∷ ns) l = let b : ⊥ = omega arith in absurd b

-- one line more
module _ (old xs new : List ℕ) (line : Line) (chunk : old ≡ xs ++ new) (three : length xs ≡ 3) (read : line ≡ line_of (get_or xs 0 0) (get_or xs 1 0) (get_or xs 2 0)) where
  pub next_line : lines_of old ≡ line ∷ lines_of new
  next_line = ap lines_of chunk ∙ (lines_front xs new three ∙ ap (λ x. x ∷ lines_of new) (sym read))

  pub read_more : (all places : List Line) (k n : ℕ) → k ≡ n → k < length places → take n places ++ lines_of old ≡ all → take (n + 1) (set places k line) ++ lines_of new ≡ all
  read_more all places k n p l h = rw (← p) (ap (λ ys. ys ++ lines_of new) (take_more_set places k line l) ∙ (append_assoc (take k places) (line ∷ []) (lines_of new) ∙ (ap (λ ys. take k places ++ ys) (sym next_line) ∙ subst (λ i. take i places ++ lines_of old ≡ all) (sym p) h)))

-- all lines
pub read_all : (ns rest : List ℕ) (places : List Line) (n : ℕ) → length rest < 3 → n + length (lines_of rest) ≡ length (lines_of ns) → take n places ++ lines_of rest ≡ lines_of ns → take (length ns / 3) places ≡ lines_of ns
read_all ns rest places n l e h =
    let z = lines_end rest l in
    let none = ap length z in
    let long = lines_length ns in
    let m : n ≡ length ns / 3 = omega arith in
    subst (λ i. take i places ≡ lines_of ns) m (sym (append-nil (take n places)) ∙ (ap (λ ys. take n places ++ ys) (sym z) ∙ h))
