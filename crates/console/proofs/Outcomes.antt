-- What each way of a command is handled as.
use Rattle.std.proofs.Common.{◌≡◌, ℕ, List, [], ◌++◌, Some, None, Ok, Err, codes, decimal, refl, ap, ◌∙◌, subst, lit≤}
use Rattle.lts.specs.Laws.Mapped.{mapped_lawful}
use Rattle.lts.specs.Laws.Most.{wider}
use Rattle.lts.specs.Map.{mapped}
use Rattle.lts.specs.Meaning.{Meaning, Lawful}
use Rattle.lts.specs.declared.action_map.ActionMap.{ActionMap}
use Rattle.theory.specs.Formulas.{Formula, depth}
use Rattle.terms.specs.Grammar.{Spells, sum}
use Rattle.terms.specs.Graph.{graph}
use Rattle.terms.specs.Laws.Lawful.{term_lawful}
use Rattle.terms.specs.Scan.{first_refusal}
use Rattle.terms.specs.Syntax.{Tree}
use Rattle.terms.specs.Terms.{tree_of}
use Rattle.terms.specs.declared.fault.TermFault.{TermFault}
use Rattle.terms.specs.declared.term.Term.{Term as Read}
use Rattle.formulas.specs.declared.line.Line.{Line}
use Rattle.comparison.specs.Compared.{Distinguished, Judged}
use Rattle.comparison.specs.declared.report.Report.{Report}
use Rattle.comparison.specs.declared.report.Verdict.TheVariants.{Same as Agrees, Different as Distinct}
use Rattle.accounts.specs.Account.{Account, Filled, Alike}
use Rattle.accounts.specs.Calls as shelf
use Rattle.accounts.specs.Calls.{accepted, called_same, called_different, cleared, refused, Does}
use Rattle.shelves.specs.Faults.{number_of}
use Rattle.shelves.specs.Moves.{told, fault_answer, Weighed, Unweighed}
use Rattle.shelves.specs.declared.fault.ShelfFault.{ShelfFault}
use Rattle.shelves.specs.declared.fault.ShelfFault.TheVariants.{Slot, Taken, Empty, Pending, Steps, Room, Different as Differs, Nothing, Claims, Clearance}
use Rattle.commands.specs.Form.{file, submit, release, withdraw}
use Rattle.commands.specs.Texts.{line_text}
use Rattle.commands.specs.declared.fault.ConsoleFault.TheVariants.{Term, Shelf}
use Rattle.commands.specs.declared.outcome.Outcome.TheVariants.{Accepted, Same, Different}
use Rattle.commands.specs.declared.verb.Verb.TheVariants.{File, Submit, Release, Withdraw}
use Rattle.console.specs.Answers.{Handled, Did}
use Rattle.console.specs.Handling.{Means, submission, unread_filing, unread_submission, files, files_not, agrees, differs, submits_not, releases, releases_not, withdraws, withdraws_not}
use Rattle.console.specs.States.{state}

-- what is called different is not alike to the procedure in force
unlike : {a : Account} {s l k : ℕ} {m : Meaning} {f : Formula} {a' : Account} → Does a (shelf.submit s m l k) (called_different f) a' → (x : Filled) × (a.slots s ≡ Some x) × (Alike x.force m → ⊥)
unlike (shelf.differs {x = x} e q u g) = (x, q, u)

-- a term, as a map has it, keeps what every source keeps
pub lawful : (map : ActionMap) (term : Read) → Lawful 128 (mapped map.entries (graph (tree_of term)))
lawful map term = wider (lit≤ tt) (mapped_lawful map.entries map.actions (graph (tree_of term)) (term_lawful term))

-- a fault without a report is told by its number
plain_answer : (f : ShelfFault) (lines : List Line) → ((report : Report) → f ≡ Differs report → ⊥) → fault_answer f lines ≡ refused (number_of f)
plain_answer Slot lines h = refl
plain_answer Taken lines h = refl
plain_answer Empty lines h = refl
plain_answer Pending lines h = refl
plain_answer Steps lines h = refl
plain_answer Room lines h = refl
plain_answer (Differs report) lines h = absurd (h report refl)
plain_answer Nothing lines h = refl
plain_answer Claims lines h = refl
plain_answer Clearance lines h = refl

-- a refused text
module _ (a : Account) (entries text : List ℕ) (s : ℕ) (f : TermFault) (refuses : first_refusal text ≡ Some f) where
  pub unread_file : Did (state a entries) (file s text) File s (Err (Term f)) a
  unread_file line form = record { calls = []; handles = unread_filing form refuses; lawful = tt }

  pub unread_submit : Did (state a entries) (submit s text) Submit s (Err (Term f)) a
  unread_submit line form = record { calls = []; handles = unread_submission form refuses; lawful = tt }

-- a text that is a term
module _ (a a' : Account) (entries text : List ℕ) (s : ℕ) (t : Tree) (unrefused : first_refusal text ≡ None) (spelled : Spells sum 0 text t) (lawful : Lawful 128 (mapped entries (graph t))) where
  means : Means entries text (mapped entries (graph t))
  means = record { unrefused = unrefused; term = t; spelled = spelled; meant = refl }

  pub filed : Does a (shelf.file s (mapped entries (graph t))) accepted a' → Did (state a entries) (file s text) File s (Ok Accepted) a'
  filed d line form = record { calls = _; handles = files form means d; lawful = (lawful, tt) }

  pub unfiled : (f : ShelfFault) → Does a (shelf.file s (mapped entries (graph t))) (refused (number_of f)) a' → Did (state a entries) (file s text) File s (Err (Shelf f)) a'
  unfiled f d line form = record { calls = _; handles = files_not form means d; lawful = (lawful, tt) }

  pub same : (report : Report) (lines lines' : List Line) (classes classes' : List ℕ) → Weighed a s (mapped entries (graph t)) lines classes report lines' classes' → Does a (submission s (mapped entries (graph t))) called_same a' → Did (state a entries) (submit s text) Submit s (Ok (Same report.classes report.rounds)) a'
  same report lines lines' classes classes' w d line form =
      let r = w.2 in
      record { calls = _; handles = agrees form means d w.1 (record { numbers = _; classes = r.numbered; rounds = r.rounds }); lawful = (lawful, tt) }

  module _ (f : ShelfFault) (report : Report) (is : f ≡ Differs report) (lines lines' : List Line) (classes classes' : List ℕ) (left : Unweighed f a s (mapped entries (graph t)) lines classes lines' classes') (does : Does a (submission s (mapped entries (graph t))) (fault_answer f lines') a') where
    weighed : Weighed a s (mapped entries (graph t)) lines classes report lines' classes'
    weighed = subst (λ v. Unweighed v a s (mapped entries (graph t)) lines classes lines' classes') is left

    does_differ : Does a (submission s (mapped entries (graph t))) (called_different (told report.verdict lines')) a'
    does_differ = subst (λ v. Does a (submission s (mapped entries (graph t))) (fault_answer v lines') a') is does

    pub different : (n i k : ℕ) → report.verdict ≡ Distinct n i k → Did (state a entries) (submit s text) Submit s (Ok (Different k)) a'
    different n i k e line form =
        let h : Distinguished weighed.0.force (mapped entries (graph t)) report.classes lines n i k lines' = subst (λ v. Judged weighed.0.force (mapped entries (graph t)) report.classes lines v lines') e weighed.2.verdict in
        let q : depth (told report.verdict lines') ≡ k = ap (λ v. depth (told v lines')) e ∙ h.deep in
        subst (λ z. Handled (state a entries) line (line_text Submit s (codes "different " ++ decimal z)) (state a' entries)) q (record { calls = _; handles = differs form means does_differ; lawful = (lawful, tt) })

    pub never_same : report.verdict ≡ Agrees → ⊥
    never_same e =
        let u = unlike does_differ in
        let q = u.1 in
        let w = weighed.1 in
        let z : weighed.0 ≡ u.0 = cc in
        let h = subst (λ v. Judged weighed.0.force (mapped entries (graph t)) report.classes lines v lines') e weighed.2.verdict in
        u.2 (subst (λ x. Alike x.force (mapped entries (graph t))) z h.0)

  pub unsubmitted : (f : ShelfFault) (lines : List Line) → ((report : Report) → f ≡ Differs report → ⊥) → ((n : ℕ) → Does a (submission s (mapped entries (graph t))) (refused n) a' → n ≡ 25 → ⊥) → Does a (submission s (mapped entries (graph t))) (fault_answer f lines) a' → Did (state a entries) (submit s text) Submit s (Err (Shelf f)) a'
  unsubmitted f lines plain room d line form =
      let n = subst (λ r. Does a (submission s (mapped entries (graph t))) r a') (plain_answer f lines plain) d in
      record { calls = _; handles = submits_not form means n (room (number_of f) n); lawful = (lawful, tt) }

-- a claim, spent at once
module _ (a : Account) (entries : List ℕ) (s : ℕ) where
  module _ (b a' : Account) (h i k : ℕ) (claimed : Does a (shelf.claim s) (cleared h i k) b) where
    pub released : Does b (shelf.release h i k) accepted a' → Did (state a entries) (release s) Release s (Ok Accepted) a'
    released d line form = record { calls = _; handles = releases form claimed d; lawful = (tt, (tt, tt)) }

    pub withdrawn : Does b (shelf.withdraw h i k) accepted a' → Did (state a entries) (withdraw s) Withdraw s (Ok Accepted) a'
    withdrawn d line form = record { calls = _; handles = withdraws form claimed d; lawful = (tt, (tt, tt)) }

  pub unreleased : (f : ShelfFault) (a' : Account) → Does a (shelf.claim s) (refused (number_of f)) a' → Did (state a entries) (release s) Release s (Err (Shelf f)) a'
  unreleased f a' d line form = record { calls = _; handles = releases_not form d; lawful = (tt, tt) }

  pub unwithdrawn : (f : ShelfFault) (a' : Account) → Does a (shelf.claim s) (refused (number_of f)) a' → Did (state a entries) (withdraw s) Withdraw s (Err (Shelf f)) a'
  unwithdrawn f a' d line form = record { calls = _; handles = withdraws_not form d; lawful = (tt, tt) }
