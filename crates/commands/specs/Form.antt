-- The form of lines.
use Rattle.std.specs.Prelude.{◌≡◌, ℕ, ◌+◌, ◌<◌, ◌≤◌, List, [], ◌∷◌, ◌++◌, length, take}
use Rattle.terms.specs.Grammar.{Letter}

-- What a line asks for: a term by its text, actions by their numbers.
pub data Request : Type 0 where
  file : (slot : ℕ) (text : List ℕ) → Request
  submit : (slot : ℕ) (text : List ℕ) → Request
  release : (slot : ℕ) → Request
  withdraw : (slot : ℕ) → Request
  rename : (from to : ℕ) → Request

-- c is the digit of s
abbrev pub Digit : ℕ → ℕ → Type 0
Digit c s = (s ≤ 9) × (c ≡ 48 + s)

abbrev pub Space : ℕ → Unit {0} → Type 0
Space c done = c ≡ 32

-- A line is of the form and asks for this. F is 70, S 83, R 82, W 87, M 77, and the space 32.
pub data Form : List ℕ → Request → Type 0 where
  files : {d s : ℕ} {text : List ℕ} → Digit d s → Form (70 ∷ 32 ∷ d ∷ 32 ∷ text) (file s text)
  submits : {d s : ℕ} {text : List ℕ} → Digit d s → Form (83 ∷ 32 ∷ d ∷ 32 ∷ text) (submit s text)
  releases : {d s : ℕ} → Digit d s → Form (82 ∷ 32 ∷ d ∷ []) (release s)
  withdraws : {d s : ℕ} → Digit d s → Form (87 ∷ 32 ∷ d ∷ []) (withdraw s)
  renames : {x y a b : ℕ} → Letter x a → Letter y b → Form (77 ∷ 32 ∷ x ∷ y ∷ []) (rename a b)

-- some line of the form begins with these bytes
abbrev pub Begins : List ℕ → Type 0
Begins bytes = (tail : List ℕ) × (r : Request) × Form (bytes ++ tail) r

-- The bytes before p fit; the one at p doesn't, or the line ends there too early.
pub record Misfit (line : List ℕ) (p : ℕ) : Type 0 where
  pub inside : p ≤ length line
  pub fits : Begins (take p line)
  pub stops : p < length line → Begins (take (p + 1) line) → ⊥
  pub early : p ≡ length line → (r : Request) → Form line r → ⊥
