-- A line is answered in one way.
use Rattle.std.proofs.Common.{◌≡◌, ℕ, ◌⊎◌, List, [], ◌∷◌, sym, refl, ap, ◌∙◌, subst, inl, inr}
use Rattle.refusals.specs.Texts.{refusal_text}
use Rattle.accounts.proofs.Keeping.{kept}
use Rattle.accounts.specs.Calls.{Event}
use Rattle.commands.proofs.OneWay.{one_request, one_misfit, never_both}
use Rattle.commands.specs.Faults.{of_console}
use Rattle.commands.specs.Form.{Request, Form, Misfit}
use Rattle.commands.specs.declared.fault.ConsoleFault.TheVariants.{Form as NoForm}
use Rattle.console.specs.Handling.{Handles, misfits, renames, unread_filing, unread_submission, files, files_not, agrees, differs, submits_not, releases, releases_not, withdraws, withdraws_not}
use Rattle.console.specs.Sessions.{LawfulCalls, none, more}
use Rattle.console.specs.States.{State}
use Rattle.console.specs.Theorems.{OneAnswer, OneState}
use Rattle.console.proofs.Sessions.{session_run}
use Rattle.console.proofs.Ways.{same, different, not_taken, Way, renamed, unread_file, unread_submit, filed, submitted, released, unreleased, withdrawn, unwithdrawn, LawfulSlots, LawfulWay, one_way}

-- the line is not of the form
record Unfit (x : State) (line out : List ℕ) (y : State) : Type 0 where
  place : ℕ
  misfit : Misfit line place
  told : out ≡ refusal_text (of_console (NoForm place))
  still : x ≡ y

-- it asks for something, and came out one way
record Asks (x : State) (line : List ℕ) (calls : List Event) (out : List ℕ) (y : State) : Type 0 where
  request : Request
  form : Form line request
  way : Way x request out y
  lawful : LawfulCalls calls → LawfulWay way

sorted : {x : State} {line out : List ℕ} {calls : List Event} {y : State} → Handles x line calls out y → Unfit x line out y ⊎ Asks x line calls out y
sorted (misfits m) = inl (record { place = _; misfit = m; told = refl; still = refl })
sorted (renames f) = inr (record { request = _; form = f; way = renamed; lawful = λ _. tt })
sorted (unread_filing f e) = inr (record { request = _; form = f; way = unread_file e; lawful = λ _. tt })
sorted (unread_submission f e) = inr (record { request = _; form = f; way = unread_submit e; lawful = λ _. tt })
sorted (files f m d) = inr (record { request = _; form = f; way = filed m d; lawful = λ _. tt })
sorted (files_not f m d) = inr (record { request = _; form = f; way = filed m d; lawful = λ _. tt })
sorted (agrees f m d e k) = inr (record { request = _; form = f; way = submitted m d (same e k); lawful = λ l. l.0 })
sorted (differs f m d) = inr (record { request = _; form = f; way = submitted m d different; lawful = λ l. l.0 })
sorted (submits_not f m d r) = inr (record { request = _; form = f; way = submitted m d not_taken; lawful = λ l. l.0 })
sorted (releases f d e) = inr (record { request = _; form = f; way = released d e; lawful = λ _. tt })
sorted (releases_not f d) = inr (record { request = _; form = f; way = unreleased d; lawful = λ _. tt })
sorted (withdraws f d e) = inr (record { request = _; form = f; way = withdrawn d e; lawful = λ _. tt })
sorted (withdraws_not f d) = inr (record { request = _; form = f; way = unwithdrawn d; lawful = λ _. tt })

both_unfit : {x : State} {line out out' : List ℕ} {y y' : State} → Unfit x line out y → Unfit x line out' y' → (out ≡ out') × (y ≡ y')
both_unfit {line = line} a b = (a.told ∙ (ap (λ p. refusal_text (of_console (NoForm p))) (one_misfit line a.place b.place a.misfit b.misfit) ∙ sym b.told), sym a.still ∙ b.still)

module _ {x : State} {line out out' : List ℕ} {calls calls' : List Event} {y y' : State} where
  both_ask : LawfulSlots x.account → LawfulCalls calls → Asks x line calls out y → Asks x line calls' out' y' → (out ≡ out') × (y ≡ y')
  both_ask slots l a b = one_way slots a.way (a.lawful l) (subst (λ q. Way x q out' y') (one_request line b.request a.request b.form a.form) b.way)

  agree : LawfulSlots x.account → LawfulCalls calls → Unfit x line out y ⊎ Asks x line calls out y → Unfit x line out' y' ⊎ Asks x line calls' out' y' → (out ≡ out') × (y ≡ y')
  agree slots l (inl a) (inl b) = both_unfit a b
  agree slots l (inl a) (inr b) = absurd (never_both line b.request a.place b.form a.misfit)
  agree slots l (inr a) (inl b) = absurd (never_both line a.request b.place a.form b.misfit)
  agree slots l (inr a) (inr b) = both_ask slots l a b

pub one_answer : OneAnswer
one_answer lines es x session line out out' calls calls' y y' h l k = agree (λ s z e. ((kept (session_run session)).filled s z e).force_lawful) l (sorted h) (sorted k)

pub one_state : OneState
one_state [] es es' x x' none none = refl
one_state (line ∷ lines) es es' x x' (more {out = out} {es = fs} {calls = calls} {x = z} s h l) (more {out = out'} {es = fs'} {calls = calls'} {x = z'} s' h' l') =
    let e = one_state lines fs fs' z z' s s' in
    (one_answer lines fs z s line out out' calls calls' x x' h l (subst (λ w. Handles w line calls' out' x') (sym e) h')).1
