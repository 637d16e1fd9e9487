-- What every run keeps of each slot.
use Rattle.std.proofs.Common.{◌≡◌, ℕ, ◌+◌, Bool, true, false, cond, eqb, ltb, List, ◌∷◌, Some, None, Option, sym, refl, ◌∙◌, subst, ⊎_elim, arith}
use Rattle.std.proofs.lemmas.Bool.{cases_eq, eq-eqb, ne_eqb, cond-true, cond-false}
use Rattle.lts.specs.Meaning.{Meaning, Lawful}
use Rattle.theory.proofs.Relations.{related_reflexive, related_transitive, lawful_inside}
use Rattle.accounts.specs.Account.{Alike, Filled, Account, new, with_slot, fresh, with_pending, with_claim, released, withdrawn, one_made}
use Rattle.accounts.specs.Calls.{Call, file, submit, claim, release, withdraw, Answer, accepted, called_same, cleared, refused, refusal, Event, LawfulCall, Does, refuses, files, agrees, differs, claims, releases, withdraws, Run, start, more}
use Rattle.accounts.specs.Law.{filed, or_else, first_filed}
use Rattle.accounts.proofs.Determined.{never}

-- alike to what is alike, over a lawful procedure
pub alike_through : (p q r : Meaning) → Lawful 128 q → Alike p q → Alike q r → Alike p r
alike_through p q r l x y = let s = l.some in related_transitive p q r 0 0 0 (lawful_inside 128 q l) (omega arith) x y

-- of a filled slot: its baseline was filed first, and what it holds is alike to it
pub record Keeps (es : List Event) (s : ℕ) (x : Filled) : Type 0 where
  pub first : first_filed es s ≡ Some x.baseline
  pub base_lawful : Lawful 128 x.baseline
  pub force_lawful : Lawful 128 x.force
  pub force : Alike x.baseline x.force
  pub pending : (m : Meaning) → x.pending ≡ Some m → Lawful 128 m × Alike x.baseline m

pub record Kept (es : List Event) (a : Account) : Type 0 where
  pub filled : (s : ℕ) (x : Filled) → a.slots s ≡ Some x → Keeps es s x
  pub empty : (s : ℕ) → a.slots s ≡ None → first_filed es s ≡ None

-- an event that files nothing in a slot leaves what was filed there first
unfiled : (es : List Event) (e : Event) (s : ℕ) → filed e.call e.answer s ≡ None → first_filed (e ∷ es) s ≡ first_filed es s
unfiled es e s h = go (first_filed es s) refl
  where
    go : (o : Option Meaning) → first_filed es s ≡ o → first_filed (e ∷ es) s ≡ first_filed es s
    go None f = rw (f, h)
    go (Some m) f = rw f

refused_files : (c : Call) (n s : ℕ) → filed c (refused n) s ≡ None
refused_files (file t m) n s = refl
refused_files (submit t m l k) n s = refl
refused_files (claim t) n s = refl
refused_files (release h t k) n s = refl
refused_files (withdraw h t k) n s = refl

-- the slots other than the one that changed
keeps_on : (es : List Event) (e : Event) (s : ℕ) (x : Filled) → filed e.call e.answer s ≡ None → Keeps es s x → Keeps (e ∷ es) s x
keeps_on es e s x h k = record { first = unfiled es e s h ∙ k.first; base_lawful = k.base_lawful; force_lawful = k.force_lawful; force = k.force; pending = k.pending }

-- an event that changes no slot
kept_still : (es : List Event) (e : Event) (a : Account) → ((s : ℕ) → filed e.call e.answer s ≡ None) → Kept es a → Kept (e ∷ es) a
kept_still es e a h k = record { filled = λ s x f. keeps_on es e s x (h s) (k.filled s x f); empty = λ s f. unfiled es e s (h s) ∙ k.empty s f }

-- an event that changes slot s, and files nothing elsewhere
kept_changed : (es : List Event) (e : Event) (a : Account) (s : ℕ) (y : Filled) → ((t : ℕ) → (t ≡ s → ⊥) → filed e.call e.answer t ≡ None) → Keeps (e ∷ es) s y → Kept es a → Kept (e ∷ es) (with_slot a s y)
kept_changed es e a s y h new k = record { filled = all_filled; empty = all_empty }
  where
    all_filled : (t : ℕ) (x : Filled) → cond (eqb t s) (Some y) (a.slots t) ≡ Some x → Keeps (e ∷ es) t x
    all_filled t x f = ⊎_elim here there (cases_eq t s)
      where
        here : t ≡ s → Keeps (e ∷ es) t x
        here q = let g = cond-true (eqb t s) (Some y) (a.slots t) (eq-eqb t s q) in let z : y ≡ x = cc in subst (λ n. Keeps (e ∷ es) n x) (sym q) (subst (λ v. Keeps (e ∷ es) s v) z new)

        there : (t ≡ s → ⊥) → Keeps (e ∷ es) t x
        there q = keeps_on es e t x (h t q) (k.filled t x (sym (cond-false (eqb t s) (Some y) (a.slots t) (ne_eqb t s q)) ∙ f))

    all_empty : (t : ℕ) → cond (eqb t s) (Some y) (a.slots t) ≡ None → first_filed (e ∷ es) t ≡ None
    all_empty t f = ⊎_elim here there (cases_eq t s)
      where
        here : t ≡ s → first_filed (e ∷ es) t ≡ None
        here q = let g = cond-true (eqb t s) (Some y) (a.slots t) (eq-eqb t s q) in never (cc)

        there : (t ≡ s → ⊥) → first_filed (e ∷ es) t ≡ None
        there q = unfiled es e t (h t q) ∙ k.empty t (sym (cond-false (eqb t s) (Some y) (a.slots t) (ne_eqb t s q)) ∙ f)

-- a filing that is accepted finds its slot empty
file_empty : (a : Account) (s : ℕ) (m : Meaning) → refusal a (file s m) ≡ None → a.slots s ≡ None
file_empty a s m e = go (a.slots s) (ltb 7 s) refl refl
  where
    go : (o : Option Filled) (b : Bool) → a.slots s ≡ o → ltb 7 s ≡ b → a.slots s ≡ None
    go None b f g = f
    go (Some x) true f g = let h : ◌≡◌ {A = Option ℕ} (Some 20) None = rw g at e in never (cc)
    go (Some x) false f g = let h : ◌≡◌ {A = Option ℕ} (Some 21) None = rw (g, f) at e in never (cc)

-- the slot that a call names, as it was
does_kept : (es : List Event) {a : Account} {c : Call} {r : Answer} {a' : Account} → LawfulCall c → Does a c r a' → Kept es a → Kept (record { call = c; answer = r } ∷ es) a'
does_kept es l (refuses {a} {c} {n} e) k = kept_still es _ a (refused_files c n) k
does_kept es l (files {a} {s} {m} e) k =
    let none : first_filed es s ≡ None = k.empty s (file_empty a s m e) in
    let first : or_else (first_filed es s) (cond (eqb s s) (Some m) None) ≡ Some m = rw (none, eq-eqb s s refl) in
    kept_changed es _ a s (fresh m) (λ t q. cond-false (eqb s t) (Some m) None (ne_eqb s t (λ z. q (sym z)))) (record { first = first; base_lawful = l; force_lawful = l; force = related_reflexive m 0; pending = λ p f. never (cc) }) k
does_kept es l (agrees {a} {s} {l = i} {k = j} {m = m} {x = x} e f g) k =
    let old = k.filled s x f in
    let new : Alike x.baseline m = alike_through x.baseline x.force m old.force_lawful old.force g in
    let event : Event = record { call = submit s m i j; answer = called_same } in
    kept_changed es event a s (with_pending x m) (λ t q. refl) (record { first = unfiled es event s refl ∙ old.first; base_lawful = old.base_lawful; force_lawful = old.force_lawful; force = old.force; pending = λ p h. (let q : m ≡ p = cc in subst (λ z. Lawful 128 z × Alike x.baseline z) q (l, new)) }) k
does_kept es l (differs {a} e f g h) k = kept_still es _ a (λ s. refl) k
does_kept es l (claims {a} {s} {x} e f) k =
    let old = k.filled s x f in
    let event : Event = record { call = claim s; answer = cleared a.number s (a.made + 1) } in
    kept_changed es event (one_made a) s (with_claim x (a.made + 1)) (λ t q. refl) (record { first = unfiled es event s refl ∙ old.first; base_lawful = old.base_lawful; force_lawful = old.force_lawful; force = old.force; pending = old.pending }) (record { filled = k.filled; empty = k.empty })
does_kept es l (releases {a} {h} {s} {k = j} {x = x} {m = m} e f g) k =
    let old = k.filled s x f in
    let moved = old.pending m g in
    let event : Event = record { call = release h s j; answer = accepted } in
    kept_changed es event a s (released x m) (λ t q. refl) (record { first = unfiled es event s refl ∙ old.first; base_lawful = old.base_lawful; force_lawful = moved.0; force = moved.1; pending = λ p o. never (cc) }) k
does_kept es l (withdraws {a} {h} {s} {k = j} {x = x} e f) k =
    let old = k.filled s x f in
    let event : Event = record { call = withdraw h s j; answer = accepted } in
    kept_changed es event a s (withdrawn x) (λ t q. refl) (record { first = unfiled es event s refl ∙ old.first; base_lawful = old.base_lawful; force_lawful = old.force_lawful; force = old.force; pending = λ p o. never (cc) }) k

pub kept : {n : ℕ} {es : List Event} {a : Account} → Run n es a → Kept es a
kept start = record { filled = λ s x e. never (cc); empty = λ s e. refl }
kept (more {es = es} r l d) = does_kept es l d (kept r)
