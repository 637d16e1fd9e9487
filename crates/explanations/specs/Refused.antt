-- Two versions, of which each was read or is refused.
use Rattle.std.specs.Prelude.{◌≡◌, List, ℕ, [], ◌++◌, Some, None, Ok, Err, Option, Result, codes}
use Rattle.refusals.specs.declared.Refusal.{Refusal}
use Rattle.refusals.specs.Texts.{refusal_text}
use Rattle.explanations.specs.declared.side.Side.{Side}
use Rattle.explanations.specs.declared.side.Side.TheVariants.{Left, Right}
use Rattle.explanations.specs.Sides.{side_text}

-- the refusal, if there is one
abbrev pub refusal : {V F : Type 0} → Result V F → Option F
refusal (Ok v) = None
refusal (Err f) = Some f

-- `left refused 12 at 2`; nothing of a version that was read
abbrev pub refused_line : {V F : Type 0} → (F → Refusal) → Side → Result V F → List ℕ
refused_line told side (Ok v) = []
refused_line told side (Err f) = side_text side ++ (codes " " ++ (refusal_text (told f) ++ codes "\n"))

-- each refused version with its refusal, or else what is told of the two
abbrev pub Answered : {V F : Type 0} → (F → Refusal) → (V → V → Type 0) → Result V F → Result V F → List ℕ → Type 0
Answered {V} told Both (Ok v) (Ok w) out = Both v w
Answered {V} told Both (Ok v) (Err g) out = out ≡ refused_line {V = V} told Right (Err g)
Answered {V} told Both (Err f) (Ok w) out = out ≡ refused_line {V = V} told Left (Err f)
Answered {V} told Both (Err f) (Err g) out = out ≡ refused_line {V = V} told Left (Err f) ++ refused_line {V = V} told Right (Err g)
