-- Where parts and lines end.
use Rattle.std.proofs.Common.{◌≡◌, ℕ, ◌+◌, ◌<◌, ◌≤◌, ◌==◌, Bool, true, false, eqb, List, [], ◌∷◌, length, take, drop, refl, ap, arith}
use Rattle.std.proofs.Math.Numerals.{one-add}
use Rattle.std.proofs.lemmas.Bool.Decides.{nat_tests}
use Rattle.std.specs.List.{position_or_len}
use Rattle.lines.specs.Lines.{first_part, later_part, first_line, later_lines, all_lines}

-- the parts, by the place of the first such byte
pub first_part_is : (mark : ℕ) (text : List ℕ) → take (position_or_len (λ b. b == mark) text) text ≡ first_part mark text
first_part_is mark [] = refl
first_part_is mark (b ∷ bs) = go (eqb b mark) refl (first_part_is mark bs)
  where
    go : (t : Bool) → eqb b mark ≡ t → take (position_or_len (λ b. b == mark) bs) bs ≡ first_part mark bs → take (position_or_len (λ b. b == mark) (b ∷ bs)) (b ∷ bs) ≡ first_part mark (b ∷ bs)
    go true e h = rw e refl
    go false e h = rw (e, one-add) (ap (λ zs. b ∷ zs) h)

pub later_part_is : (mark : ℕ) (text : List ℕ) → drop (position_or_len (λ b. b == mark) text + 1) text ≡ later_part mark text
later_part_is mark [] = refl
later_part_is mark (b ∷ bs) = grind (arith, nat_tests, later_part_is mark bs)

-- the first line of a text, and those behind it
pub lines_first : (text : List ℕ) → 0 < length text → all_lines text ≡ first_line text ∷ all_lines (later_lines text)
lines_first [] l = absurd (omega (arith, l))
lines_first (b ∷ []) l = grind (arith, nat_tests)
lines_first (b ∷ c ∷ bs) l = let h = lines_first (c ∷ bs) (omega arith) in grind (arith, nat_tests)

-- what follows a part is shorter than a text that is not empty
later_most : (mark : ℕ) (text : List ℕ) → length (later_part mark text) ≤ length text
later_most mark [] = omega arith
later_most mark (b ∷ bs) = let h = later_most mark bs in grind (arith, nat_tests)

pub later_shorter : (mark : ℕ) (text : List ℕ) → 0 < length text → length (later_part mark text) < length text
later_shorter mark [] l = l
later_shorter mark (b ∷ bs) l = let h = later_most mark bs in grind (arith, nat_tests)
