-- What a line does to a console, and what it prints.
use Rattle.std.specs.Prelude.{◌≡◌, ℕ, List, [], ◌∷◌, ◌++◌, Some, None, codes, decimal, ◌≢◌, slice_set}
use Rattle.refusals.specs.Texts.{refusal_text}
use Rattle.refusals.specs.declared.Layer.TheVariants.{Shelf}
use Rattle.lts.specs.Joined.{joined}
use Rattle.lts.specs.Map.{mapped}
use Rattle.lts.specs.Meaning.{Meaning}
use Rattle.theory.specs.Classes.{Classes}
use Rattle.theory.specs.Formulas.{Formula, depth}
use Rattle.theory.specs.Rounds.{all_of, Rounds}
use Rattle.terms.specs.Faults.{of_term}
use Rattle.terms.specs.Grammar.{Spells, sum}
use Rattle.terms.specs.Graph.{graph}
use Rattle.terms.specs.Scan.{first_refusal}
use Rattle.terms.specs.Syntax.{Tree}
use Rattle.terms.specs.declared.fault.TermFault.{TermFault}
use Rattle.accounts.specs.Account.{Account, Filled}
use Rattle.accounts.specs.Calls.{Call, file as filing, submit as submitting, claim as claiming, release as releasing, withdraw as withdrawing, Answer, accepted, called_same, called_different, cleared, refused, Does, Event}
use Rattle.commands.specs.Faults.{of_console}
use Rattle.commands.specs.Form.{file, submit, release, withdraw, rename, Form, Misfit}
use Rattle.commands.specs.Texts.{line_text}
use Rattle.commands.specs.declared.fault.ConsoleFault.TheVariants.{Form as NoForm}
use Rattle.commands.specs.declared.verb.Verb.TheVariants.{File, Submit, Release, Withdraw}
use Rattle.console.specs.States.{State, state}

-- a text that is not refused means the action map over the graph of the term that it spells
pub record Means (entries text : List ℕ) (m : Meaning) : Type 0 where
  pub unrefused : first_refusal text ≡ None
  pub term : Tree
  pub spelled : Spells sum 0 text term
  pub meant : m ≡ mapped entries (graph term)

-- p and q, joined, have K classes, and r is their least stable round
pub record Counted (p q : Meaning) (K r : ℕ) : Type 0 where
  pub numbers : ℕ → ℕ
  pub classes : Classes (joined p q) (all_of (joined p q)) K numbers
  pub rounds : Rounds (joined p q) (all_of (joined p q)) r

abbrev pub called : Call → Answer → Event
called c r = record { call = c; answer = r }

-- a submission has room for 1,021 lines and 256 class numbers, which is always enough
abbrev pub submission : ℕ → Meaning → Call
submission s m = submitting s m 1021 256

-- the refusal of a call on the shelf, which has no place
abbrev pub refused_text : ℕ → List ℕ
refused_text n = refusal_text (record { number = n; layer = Shelf; place = None })

-- From a state, a line makes these calls on the shelf, the latest first, prints this, without its line feed, and leaves a
-- state. The letters stand as `line-text` has them.
pub data Handles : State → List ℕ → List Event → List ℕ → State → Type 0 where
  -- a line that is not of the form changes nothing
  misfits : {x : State} {line : List ℕ} {p : ℕ} → Misfit line p → Handles x line [] (refusal_text (of_console (NoForm p))) x
  -- `M xy` sets the entry of x to y
  renames : {x : State} {line : List ℕ} {a b : ℕ} → Form line (rename a b) → Handles x line [] (codes "M ok") (state x.account (slice_set x.entries a b))
  -- a refused text: the shelf is not called
  unread_filing : {x : State} {line text : List ℕ} {s : ℕ} {f : TermFault} → Form line (file s text) → first_refusal text ≡ Some f → Handles x line [] (line_text File s (refusal_text (of_term f))) x
  unread_submission : {x : State} {line text : List ℕ} {s : ℕ} {f : TermFault} → Form line (submit s text) → first_refusal text ≡ Some f → Handles x line [] (line_text Submit s (refusal_text (of_term f))) x
  -- a filing
  files : {x : State} {line text : List ℕ} {s : ℕ} {m : Meaning} {a : Account} → Form line (file s text) → Means x.entries text m → Does x.account (filing s m) accepted a → Handles x line (called (filing s m) accepted ∷ []) (line_text File s (codes "ok")) (state a x.entries)
  files_not : {x : State} {line text : List ℕ} {s n : ℕ} {m : Meaning} {a : Account} → Form line (file s text) → Means x.entries text m → Does x.account (filing s m) (refused n) a → Handles x line (called (filing s m) (refused n) ∷ []) (line_text File s (refused_text n)) (state a x.entries)
  -- a submission, with the classes and rounds of the procedure in force and the submitted one, or the depth of the formula
  agrees : {x : State} {line text : List ℕ} {s K r : ℕ} {m : Meaning} {a : Account} {y : Filled} → Form line (submit s text) → Means x.entries text m → Does x.account (submission s m) called_same a → x.account.slots s ≡ Some y → Counted y.force m K r → Handles x line (called (submission s m) called_same ∷ []) (line_text Submit s (codes "same " ++ (decimal K ++ (codes " " ++ decimal r)))) (state a x.entries)
  differs : {x : State} {line text : List ℕ} {s : ℕ} {m : Meaning} {a : Account} {f : Formula} → Form line (submit s text) → Means x.entries text m → Does x.account (submission s m) (called_different f) a → Handles x line (called (submission s m) (called_different f) ∷ []) (line_text Submit s (codes "different " ++ decimal (depth f))) (state a x.entries)
  submits_not : {x : State} {line text : List ℕ} {s n : ℕ} {m : Meaning} {a : Account} → Form line (submit s text) → Means x.entries text m → Does x.account (submission s m) (refused n) a → (n ≢ 25) → Handles x line (called (submission s m) (refused n) ∷ []) (line_text Submit s (refused_text n)) (state a x.entries)
  -- a claim, and the release or the withdrawal by its clearance
  releases : {x : State} {line : List ℕ} {s h i k : ℕ} {a b : Account} → Form line (release s) → Does x.account (claiming s) (cleared h i k) a → Does a (releasing h i k) accepted b → Handles x line (called (releasing h i k) accepted ∷ called (claiming s) (cleared h i k) ∷ []) (line_text Release s (codes "ok")) (state b x.entries)
  releases_not : {x : State} {line : List ℕ} {s n : ℕ} {a : Account} → Form line (release s) → Does x.account (claiming s) (refused n) a → Handles x line (called (claiming s) (refused n) ∷ []) (line_text Release s (refused_text n)) (state a x.entries)
  withdraws : {x : State} {line : List ℕ} {s h i k : ℕ} {a b : Account} → Form line (withdraw s) → Does x.account (claiming s) (cleared h i k) a → Does a (withdrawing h i k) accepted b → Handles x line (called (withdrawing h i k) accepted ∷ called (claiming s) (cleared h i k) ∷ []) (line_text Withdraw s (codes "ok")) (state b x.entries)
  withdraws_not : {x : State} {line : List ℕ} {s n : ℕ} {a : Account} → Form line (withdraw s) → Does x.account (claiming s) (refused n) a → Handles x line (called (claiming s) (refused n) ∷ []) (line_text Withdraw s (refused_text n)) (state a x.entries)
