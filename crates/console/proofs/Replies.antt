-- Each line is answered whole.
use Rattle.std.proofs.Common.{◌≡◌, ℕ, ◌≤◌, List, [], ◌∷◌, ◌++◌, length, take, set, Some, None, codes, Option, Result, refl, sym, subst, ⊎_elim, arith}
use Rattle.std.specs.Option.{IsSome}
use Rattle.refusals.specs.Texts.{refusal_text}
use Rattle.lts.specs.Map.{Changed}
use Rattle.lts.specs.declared.action_map.ActionMap.{ActionMap}
use Rattle.terms.specs.Grammar.{Letter, small, capital, digit}
use Rattle.accounts.specs.Account.{Account}
use Rattle.commands.specs.Faults.{of_console}
use Rattle.commands.specs.Form as form
use Rattle.commands.specs.Form.{Request, file, submit, release, withdraw, rename, Form}
use Rattle.commands.specs.Reading.{Misfits}
use Rattle.commands.specs.Texts.{outcome_text, reply_text}
use Rattle.commands.specs.declared.fault.ConsoleFault.{ConsoleFault}
use Rattle.commands.specs.declared.fault.ConsoleFault.TheVariants.{Form as NoForm, Long, Term, Shelf}
use Rattle.commands.specs.declared.outcome.Outcome.{Outcome}
use Rattle.commands.specs.declared.verb.Verb.{Verb}
use Rattle.console.specs.Answers.{Answered, Handled, Did}
use Rattle.console.specs.Handling.{misfits, renames}
use Rattle.console.specs.States.{State, state}
use Rattle.console.proofs.Lengths.{refusal_short, reply_short, uncut}
use Rattle.console.proofs.Sessions.{answered}

-- the slot that a line names
abbrev slot_of : Request → ℕ
slot_of (file s text) = s
slot_of (submit s text) = s
slot_of (release s) = s
slot_of (withdraw s) = s
slot_of (rename a b) = 0

one_digit : {line : List ℕ} {q : Request} → Form line q → slot_of q ≤ 9
one_digit (form.files d) = d.0
one_digit (form.submits d) = d.0
one_digit (form.releases d) = d.0
one_digit (form.withdraws d) = d.0
one_digit (form.renames x y) = omega arith

-- a command on a slot
pub replied : {x : State} {line bytes : List ℕ} {a : Account} (q : Request) (v : Verb) (r : Result Outcome ConsoleFault) → Form line q → Did x q v (slot_of q) r a → length (outcome_text r) ≤ 18 → bytes ≡ take 32 (reply_text v (slot_of q) r ++ 10 ∷ []) → Answered x line bytes (state a x.entries)
replied {line = line} q v r f did short e =
    let s = one_digit f in
    answered (did line f) (uncut (reply_text v (slot_of q) r) (reply_short v (slot_of q) r (omega arith) short) e)

-- a line that is not of the form
pub unfit : {x : State} {line bytes : List ℕ} (fault : ConsoleFault) → Misfits line fault → bytes ≡ take 32 (refusal_text (of_console fault) ++ 10 ∷ []) → Answered x line bytes x
unfit (NoForm p) m e =
    let near = m.1 in
    let short = refusal_short (of_console (NoForm p)) (omega arith) (omega arith) in
    answered (record { calls = []; handles = misfits m.0; lawful = tt }) (uncut (refusal_text (of_console (NoForm p))) (omega arith) e)
unfit Long m e = absurd m
unfit (Term fault) m e = absurd m
unfit (Shelf fault) m e = absurd m

letter_action : {c a : ℕ} → Letter c a → a ≤ 63
letter_action (small l h) = omega arith
letter_action (capital l h) = omega arith
letter_action (digit l h) = omega arith

-- a map with another entry
pub changed : {line : List ℕ} {a b : ℕ} (entries : List ℕ) (map : Option ActionMap) → Form line (rename a b) → Changed entries a b map → IsSome map
changed entries (Some map) f h = refl
changed entries None (form.renames x y) h = let k = letter_action x in let l = letter_action y in absurd (⊎_elim (λ g. omega (arith, g, k)) (λ g. omega (arith, g, l)) h)

pub renamed : {account : Account} {entries entries' line : List ℕ} {a b : ℕ} → Form line (rename a b) → entries' ≡ set entries a b → Handled (state account entries) line (codes "M ok") (state account entries')
renamed {account} {entries} {line = line} f e = subst (λ z. Handled (state account entries) line (codes "M ok") (state account z)) (sym e) (record { calls = []; handles = renames f; lawful = tt })

pub map_told : {x x' : State} {line bytes : List ℕ} → Handled x line (codes "M ok") x' → bytes ≡ take 32 (codes "M ok" ++ 10 ∷ []) → Answered x line bytes x'
map_told h e = answered h (uncut (codes "M ok") (omega arith) e)
