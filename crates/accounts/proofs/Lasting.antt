-- Every run keeps the law.
use Rattle.std.proofs.Common.{◌≡◌, ℕ, ◌+◌, List, [], ◌∷◌, ◌++◌, Some, None, refl, ap, ◌∙◌, subst, inl, inr, ⊎_elim}
use Rattle.lts.specs.Meaning.{Meaning}
use Rattle.theory.specs.Formulas.{Formula}
use Rattle.theory.proofs.Formulas.{related_formulas}
use Rattle.theory.proofs.Relations.{related_symmetric}
use Rattle.accounts.specs.Account.{Alike, Least, Filled, Account}
use Rattle.accounts.specs.Calls.{Call, submit, claim, Answer, cleared, refusal, Event, Does, refuses, agrees, differs, claims, files, releases, withdraws, Run, start, more}
use Rattle.accounts.specs.Law.{first_filed, Called, Lasting}
use Rattle.accounts.proofs.Determined.{never, determined}
use Rattle.accounts.proofs.Keeping.{alike_through, Keeps, kept}

-- the call in the middle of a run, with the account before it
pub record Happened (n : ℕ) (before : List Event) (e : Event) : Type 0 where
  pub account : Account
  pub later : Account
  pub run : Run n before account
  pub did : Does account e.call e.answer later

happened : (n : ℕ) (after before : List Event) (e : Event) (a : Account) → Run n (after ++ e ∷ before) a → Happened n before e
happened n [] before e a (more {a = b} r l d) = record { account = b; later = a; run = r; did = d }
happened n (x ∷ after) before e a (more {a = b} r l d) = happened n after before e b r

-- the call did what it did on any account that the events before it lead to
did_there : (n : ℕ) (es after before : List Event) (e : Event) (z a : Account) → Run n es z → es ≡ after ++ e ∷ before → Run n before a → (a' : Account) × Does a e.call e.answer a'
did_there n es after before e z a r q b =
    let h = happened n after before e z (subst (λ l. Run n l z) q r) in
    let same = determined n before before h.account a h.run b refl in
    (h.later, subst (λ y. Does y e.call e.answer h.later) same h.did)

does_number : {a : Account} {c : Call} {r : Answer} {a' : Account} → Does a c r a' → a'.number ≡ a.number
does_number (refuses e) = refl
does_number (files e) = refl
does_number (agrees e f g) = refl
does_number (differs e f g h) = refl
does_number (claims e f) = refl
does_number (releases e f g) = refl
does_number (withdraws e f) = refl

pub run_number : {n : ℕ} {es : List Event} {a : Account} → Run n es a → a.number ≡ n
run_number start = refl
run_number (more r l d) = does_number d ∙ run_number r

claimed : {a : Account} {s : ℕ} {r : Answer} {a' : Account} → Does a (claim s) r a' → refusal a (claim s) ≡ None → r ≡ cleared a.number s (a.made + 1)
claimed (refuses e) f = never (cc)
claimed (claims e g) f = refl

-- what tells a submission from what is in force tells it from what is alike to that
least_moves : (b p m : Meaning) (f : Formula) → Alike b p → Least p m f → Least b m f
least_moves b p m f h l =
    (((related_formulas b p 0 0 h f).1 l.0.0, l.0.1), λ g s. l.1 g (⊎_elim (λ t. inl ((related_formulas b p 0 0 h g).0 t.0, t.1)) (λ t. inr (t.0, λ k. t.1 ((related_formulas b p 0 0 h g).1 k))) s))

called : (es : List Event) {a : Account} {s : ℕ} {m : Meaning} {l k : ℕ} {r : Answer} {a' : Account} → ((x : Filled) → a.slots s ≡ Some x → Keeps es s x) → Does a (submit s m l k) r a' → refusal a (submit s m l k) ≡ None → (b : Meaning) × (first_filed es s ≡ Some b) × Called b m r
called es w (refuses e) f = never (cc)
called es w (agrees {m = m} {x = x} e g h) f =
    let o = w x g in
    (x.baseline, o.first, alike_through x.baseline x.force m o.force_lawful o.force h)
called es w (differs {m = m} {x = x} {f = d} e g h i) f =
    let o = w x g in
    let turned = related_symmetric x.baseline x.force 0 0 o.force in
    (x.baseline, o.first, (λ same. h (alike_through x.force x.baseline m o.base_lawful turned same), least_moves x.baseline x.force m d o.force i))

pub lasting : Lasting
lasting n es z run =
    record { claims = λ after before s r a q b f. (let d = did_there n es after before (record { call = claim s; answer = r }) z a run q b in claimed d.1 f ∙ ap (λ v. cleared v s (a.made + 1)) (run_number b)); force = λ a s x b f. (let o = (kept b).filled s x f in (x.baseline, o.first, o.force)); verdicts = λ after before s m l k r a q b f. (let d = did_there n es after before (record { call = submit s m l k; answer = r }) z a run q b in called before (λ x g. (kept b).filled s x g) d.1 f) }
