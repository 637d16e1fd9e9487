-- What a word names.
use Rattle.std.specs.Prelude.{◌≡◌, ℕ, Bool, false, List, [], ◌∷◌, ◌++◌, Some, None, codes, IsUtf8, Option, ◌==◌}
use Rattle.inputs.specs.declared.input.Input.{Input}
use Rattle.inputs.specs.declared.input.Input.TheVariants as inputs
use Rattle.inputs.specs.declared.word.Given.{Given}
use Rattle.inputs.specs.declared.word.Given.TheVariants as givens
use Rattle.inputs.specs.declared.word.Word.{Word}
use Rattle.inputs.specs.declared.word.Word.TheVariants.{Term, File}

-- the word as it is written
abbrev pub word_text : Word → List ℕ
word_text (Term text) = text.now
word_text (File path) = codes "@" ++ path.now

-- whether '@' stands first
abbrev pub marked : List ℕ → Bool
marked [] = false
marked (b ∷ bs) = b == 64

-- a text without '@' before it is a term's, a path behind '@' names a file; only a path that is no UTF-8 names none
abbrev pub Names : List ℕ → Option Word → Type 0
Names text (Some (Term t)) = (t.now ≡ text) × (marked text ≡ false)
Names text (Some (File p)) = text ≡ codes "@" ++ p.now
Names text None = (path : List ℕ) × (text ≡ codes "@" ++ path) × (IsUtf8 path → ⊥)

-- what is given: the text of a term, or the bytes of the file
abbrev pub input_of : Given → Input
input_of (givens.Term text) = inputs.Term text
input_of (givens.File path bytes) = inputs.Table bytes

-- the word that names what is given
abbrev pub word_of : Given → Word
word_of (givens.Term text) = Term text
word_of (givens.File path bytes) = File path
