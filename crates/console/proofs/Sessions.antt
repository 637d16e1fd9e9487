-- Lines and the calls that they make.
use Rattle.std.proofs.Common.{◌≡◌, ℕ, List, [], ◌∷◌, ◌++◌}
use Rattle.accounts.specs.Calls.{Event, Run, start as new-shelf, more as one_more}
use Rattle.accounts.specs.Law.{Law}
use Rattle.accounts.proofs.Lasting.{lasting}
use Rattle.console.specs.Answers.{Answered, Handled}
use Rattle.console.specs.Handling.{Handles, misfits, renames, unread_filing, unread_submission, files, files_not, agrees, differs, submits_not, releases, releases_not, withdraws, withdraws_not}
use Rattle.console.specs.Sessions.{LawfulCalls, Session, none, more, Reached, Stands}
use Rattle.console.specs.States.{State}

-- the calls of a line lengthen a run
run_more : {x x' : State} {line out : List ℕ} {calls : List Event} → Handles x line calls out x' → LawfulCalls calls → (es : List Event) → Run 0 es x.account → Run 0 (calls ++ es) x'.account
run_more (misfits m) l es run = run
run_more (renames f) l es run = run
run_more (unread_filing f e) l es run = run
run_more (unread_submission f e) l es run = run
run_more (files f m d) l es run = one_more run l.0 d
run_more (files_not f m d) l es run = one_more run l.0 d
run_more (agrees f m d e k) l es run = one_more run l.0 d
run_more (differs f m d) l es run = one_more run l.0 d
run_more (submits_not f m d r) l es run = one_more run l.0 d
run_more (releases f d e) l es run = one_more (one_more run l.1.0 d) l.0 e
run_more (releases_not f d) l es run = one_more run l.0 d
run_more (withdraws f d e) l es run = one_more (one_more run l.1.0 d) l.0 e
run_more (withdraws_not f d) l es run = one_more run l.0 d

pub session_run : {lines : List (List ℕ)} {es : List Event} {x : State} → Session lines es x → Run 0 es x.account
session_run none = new-shelf
session_run (more {es = es} s h l) = run_more h l es (session_run s)

module _ {x x' : State} {line out : List ℕ} (h : Handled x line out x') where
  pub reached_more : Reached x.account x.entries → Reached x'.account x'.entries
  reached_more r = (line ∷ r.0, h.calls ++ r.1, more r.2 h.handles h.lawful)

  pub answered : {bytes : List ℕ} → bytes ≡ out ++ 10 ∷ [] → Answered x line bytes x'
  answered {bytes} e = record { out = out; calls = h.calls; handled = h.handles; written = e; session = on }
    where
      on : (lines : List (List ℕ)) (es : List Event) → Session lines es x → Session (line ∷ lines) (h.calls ++ es) x' × Law 0 (h.calls ++ es) × Stands (h.calls ++ es) x'.account
      on lines es s =
          let run = run_more h.handles h.lawful es (session_run s) in
          let law = lasting 0 (h.calls ++ es) x'.account run in
          (more s h.handles h.lawful, law, λ t y q. law.force x'.account t y run q)
