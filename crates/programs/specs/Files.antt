-- What is brought for a word.
use Rattle.std.specs.Prelude.{◌≡◌, ℕ, List, [], Some, vec_items}
use Rattle.inputs.specs.Words.{Names}
use Rattle.inputs.specs.declared.word.Given.{Given}
use Rattle.inputs.specs.declared.word.Given.TheVariants as givens
use Rattle.inputs.specs.declared.word.Word.{Word}
use Rattle.inputs.specs.declared.word.Word.TheVariants.{Term, File}
use Rattle.programs.specs.declared.files.Fetched.{Fetched}
use Rattle.programs.specs.declared.files.Fetched.TheVariants as fetched

-- the word that was fetched
abbrev pub fetched_word : Fetched → Word
fetched_word (fetched.Term text) = Term text
fetched_word (fetched.File path bytes) = File path

-- the bytes of its file, none for a term
abbrev pub fetched_file : Fetched → List ℕ
fetched_file (fetched.Term text) = []
fetched_file (fetched.File path bytes) = vec_items bytes

-- the bytes of the file that is given, none for a term
abbrev pub file_of : Given → List ℕ
file_of (givens.Term text) = []
file_of (givens.File path bytes) = bytes.now

-- a term has no file
abbrev pub Fileless : Word → List ℕ → Type 0
Fileless (Term text) file = file ≡ []
Fileless (File path) file = Unit {0}

-- the word that the text is, with the bytes of its file; no statement says what a file holds
pub record Brought (text : List ℕ) (f : Fetched) : Type 0 where
  pub word : Names text (Some (fetched_word f))
  pub file : Fileless (fetched_word f) (fetched_file f)
