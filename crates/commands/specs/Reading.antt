-- What reading a line answers.
use Rattle.std.specs.Prelude.{◌≡◌, ℕ, ◌<◌, ◌≤◌, List, length, drop, Some, None, Ok, Err, Option, Result, slice_index}
use Rattle.terms.specs.Grammar.{Letter}
use Rattle.commands.specs.Form.{Request, file, submit, release, withdraw, rename, Digit, Form as OfForm, Misfit}
use Rattle.commands.specs.declared.command.Command.{Command}
use Rattle.commands.specs.declared.command.Command.TheVariants.{File, Submit, Release, Withdraw, Rename}
use Rattle.commands.specs.declared.fault.ConsoleFault.{ConsoleFault}
use Rattle.commands.specs.declared.fault.ConsoleFault.TheVariants.{Form, Long, Term, Shelf}

-- what a command asks for
abbrev pub asked : Command → Request
asked (File s text) = file s text.now
asked (Submit s text) = submit s text.now
asked (Release s) = release s
asked (Withdraw s) = withdraw s
asked (Rename a b) = rename a b

-- a line that is not of the form, with its place, which is at most 4
abbrev pub Misfits : List ℕ → ConsoleFault → Type 0
Misfits line (Form p) = Misfit line p × (p ≤ 4)
Misfits line Long = ⊥
Misfits line (Term fault) = ⊥
Misfits line (Shelf fault) = ⊥

-- the command that the line is, or its misfit
abbrev pub Read : List ℕ → Result Command ConsoleFault → Type 0
Read line (Ok c) = OfForm line (asked c)
Read line (Err fault) = Misfits line fault

-- a byte is of a kind and stands for x, or stands for nothing
abbrev pub Stands : {X : Type 0} → (ℕ → X → Type 0) → ℕ → Option X → Type 0
Stands Kind c (Some x) = Kind c x
Stands {X} Kind c None = (x : X) → Kind c x → ⊥

-- what is read of the byte at a place; or nothing is, or the line ends before it
abbrev pub Found : {X : Type 0} → (ℕ → Option X → Type 0) → List ℕ → ℕ → Result X ConsoleFault → Type 0
Found Reads line at (Ok x) = (at < length line) × Reads (slice_index line at) (Some x)
Found Reads line at (Err fault) = (fault ≡ Form at) × (at < length line → Reads (slice_index line at) None)

-- the line ends at a place or before, or goes on
abbrev pub Ended : List ℕ → ℕ → Result (Unit {0}) ConsoleFault → Type 0
Ended line at (Ok done) = length line ≤ at
Ended line at (Err fault) = (fault ≡ Form at) × (at < length line)

-- a space and a digit behind the letter
abbrev pub SlotAt : List ℕ → ℕ → Type 0
SlotAt line s = (2 < length line) × (slice_index line 1 ≡ 32) × Digit (slice_index line 2) s

-- a space and a text behind the slot
abbrev pub TextAt : List ℕ → List ℕ → Type 0
TextAt line text = (3 < length line) × (slice_index line 3 ≡ 32) × (text ≡ drop 4 line)

-- a space and two action characters behind the letter, and nothing more
abbrev pub ActionsAt : List ℕ → ℕ → ℕ → Type 0
ActionsAt line a b = (length line ≡ 4) × (slice_index line 1 ≡ 32) × Letter (slice_index line 2) a × Letter (slice_index line 3) b
