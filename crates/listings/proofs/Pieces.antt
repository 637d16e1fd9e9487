-- Texts that are written one behind another.
use Rattle.std.proofs.Common.{◌≡◌, ℕ, List, ◌++◌, ap, ◌∙◌, append_assoc}

pub two_pieces : (out out₁ out₂ a b : List ℕ) → out₁ ≡ out ++ a → out₂ ≡ out₁ ++ b → out₂ ≡ out ++ (a ++ b)
two_pieces out out₁ out₂ a b e f = f ∙ (ap (λ z. z ++ b) e ∙ append_assoc out a b)

pub three_pieces : (out out₁ out₂ out₃ a b d : List ℕ) → out₁ ≡ out ++ a → out₂ ≡ out₁ ++ b → out₃ ≡ out₂ ++ d → out₃ ≡ out ++ (a ++ (b ++ d))
three_pieces out out₁ out₂ out₃ a b d e f g = two_pieces out out₁ out₃ a (b ++ d) e (two_pieces out₁ out₂ out₃ b d f g)

pub four_pieces : (out out₁ out₂ out₃ out₄ a b d x : List ℕ) → out₁ ≡ out ++ a → out₂ ≡ out₁ ++ b → out₃ ≡ out₂ ++ d → out₄ ≡ out₃ ++ x → out₄ ≡ out ++ (a ++ (b ++ (d ++ x)))
four_pieces out out₁ out₂ out₃ out₄ a b d x e f g h = two_pieces out out₁ out₄ a (b ++ (d ++ x)) e (three_pieces out₁ out₂ out₃ out₄ b d x f g h)
