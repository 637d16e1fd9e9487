-- A text that spells a term has bytes below 128.
use Rattle.std.proofs.Common.{ℕ, ◌<◌, List, [], ◌∷◌, ◌++◌, IsAscii, arith, lit<}
use Rattle.std.proofs.lemmas.Str.Ascii.{IsAscii-nil, IsAscii-cons}
use Rattle.std.proofs.lemmas.Str.{IsAscii-append}
use Rattle.terms.specs.Grammar.{Letter, small, capital, digit, Level, Spells, action, bracket, one_operand, more_operands, one_product, more_products}
use Rattle.terms.specs.Syntax.{Tree}

letter_below : {c a : ℕ} → Letter c a → c < 128
letter_below (small l h) = omega arith
letter_below (capital l h) = omega arith
letter_below (digit l h) = omega arith

pub spelled_ascii : {level : Level} {i : ℕ} {xs : List ℕ} {t : Tree} → Spells level i xs t → IsAscii xs
spelled_ascii (action {i} {c} l) = IsAscii-cons c [] (letter_below l) IsAscii-nil
spelled_ascii (bracket {i} {xs} s) = IsAscii-cons 40 (xs ++ 41 ∷ []) (lit< tt) (IsAscii-append xs (41 ∷ []) (spelled_ascii s) (IsAscii-cons 41 [] (lit< tt) IsAscii-nil))
spelled_ascii (one_operand s) = spelled_ascii s
spelled_ascii (more_operands {i} {xs} {ys} s r) = IsAscii-append xs (46 ∷ ys) (spelled_ascii s) (IsAscii-cons 46 ys (lit< tt) (spelled_ascii r))
spelled_ascii (one_product s) = spelled_ascii s
spelled_ascii (more_products {i} {xs} {ys} s r) = IsAscii-append xs (43 ∷ ys) (spelled_ascii s) (IsAscii-cons 43 ys (lit< tt) (spelled_ascii r))
