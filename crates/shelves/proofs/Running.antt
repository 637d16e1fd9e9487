-- Calls of a list, and how they are told.
use Rattle.std.proofs.Common.{◌≡◌, ℕ, ◌+◌, ◌<◌, ◌≤◌, List, [], ◌∷◌, ◌++◌, map, length, get_or, take, drop, set, Ok, Result, sym, refl, ap, ◌∙◌, subst, arith}
use mathlib.Core.List.{reverse-cons, reverse-append}
use lib.ListN.{length-map}
use Rattle.std.proofs.lemmas.List.{take_more, take_more_set, get_or-map, take_all, drop-set-lt, drop-drop}
use Rattle.refusals.specs.declared.Refusal.{Refusal}
use Rattle.lts.specs.Meaning.{Meaning}
use Rattle.formulas.specs.declared.line.Line.{Line}
use Rattle.comparison.specs.Compared.{Judged}
use Rattle.comparison.specs.declared.report.Verdict.{Verdict}
use Rattle.comparison.specs.declared.report.Verdict.TheVariants.{Same, Different}
use Rattle.theory.specs.Formulas.{depth}
use Rattle.accounts.specs.Account.{Account, new}
use Rattle.accounts.specs.Calls.{Call, submit, Answer, called_same, Event, Run, start}
use Rattle.accounts.specs.Law.{Law}
use Rattle.accounts.proofs.Lasting.{lasting, run_number}
use Rattle.shelves.specs.Moves.{Moved, told, fault_answer, Unweighed}
use Rattle.shelves.specs.Runs.{outcome_of, fault_outcome, depth_of, Performed, Follows}
use Rattle.shelves.specs.declared.call.Outcome.{Outcome}
use Rattle.shelves.specs.declared.call.Outcome.TheVariants.{Same as Agreed, Different as Separated}
use Rattle.shelves.specs.declared.fault.ShelfFault.{ShelfFault}
use Rattle.shelves.specs.declared.fault.ShelfFault.TheVariants.{Slot, Taken, Empty, Pending, Steps, Room, Different as Differs, Nothing, Claims, Clearance as Uncleared}

-- the formula of a verdict nests as many steps as the verdict tells
told_depth : (p q : Meaning) (K : ℕ) (lines lines' : List Line) (v : Verdict) → Judged p q K lines v lines' → depth (told v lines') ≡ depth_of v
told_depth p q K lines lines' Same j = refl
told_depth p q K lines lines' (Different n i d) j = j.deep

unlike_told : (f : ShelfFault) (a : Account) (s : ℕ) (m : Meaning) (lines lines' : List Line) (classes classes' : List ℕ) → Unweighed f a s m lines classes lines' classes' → outcome_of (fault_answer f lines') ≡ fault_outcome f
unlike_told Slot a s m lines lines' classes classes' w = refl
unlike_told Taken a s m lines lines' classes classes' w = refl
unlike_told Empty a s m lines lines' classes classes' w = refl
unlike_told Pending a s m lines lines' classes classes' w = refl
unlike_told Steps a s m lines lines' classes classes' w = refl
unlike_told Room a s m lines lines' classes classes' w = refl
unlike_told (Differs report) a s m lines lines' classes classes' w = ap (λ k. Ok (Separated k)) (told_depth w.0.force m report.classes lines lines' report.verdict w.2.verdict)
unlike_told Nothing a s m lines lines' classes classes' w = refl
unlike_told Claims a s m lines lines' classes classes' w = refl
unlike_told Uncleared a s m lines lines' classes classes' w = refl

-- a submission by the number of its places
lent : (a a' : Account) (s : ℕ) (m : Meaning) (lines : List Line) (classes : List ℕ) (l k : ℕ) (r : Answer) → length lines ≡ l → length classes ≡ k → Moved a (submit s m (length lines) (length classes)) r a' → Moved a (submit s m l k) r a'
lent a a' s m lines classes l k r el ek moved = subst (λ x. Moved a (submit s m x k) r a') el (subst (λ y. Moved a (submit s m (length lines) y) r a') ek moved)

-- a submission that is not the same
pub unlike_performed : (f : ShelfFault) (o : Result Outcome Refusal) (a a' : Account) (s : ℕ) (m : Meaning) (lines lines' : List Line) (classes classes' : List ℕ) (l k : ℕ) → length lines ≡ l → length classes ≡ k → o ≡ fault_outcome f → Moved a (submit s m (length lines) (length classes)) (fault_answer f lines') a' → Unweighed f a s m lines classes lines' classes' → Performed a (submit s m l k) o a'
unlike_performed f o a a' s m lines lines' classes classes' l k el ek eo moved w =
    record { answer = fault_answer f lines'; moved = lent a a' s m lines classes l k (fault_answer f lines') el ek moved; told = eo ∙ sym (unlike_told f a s m lines lines' classes classes' w) }

-- a submission that is the same
pub same_performed : (a a' : Account) (s : ℕ) (m : Meaning) (lines : List Line) (classes : List ℕ) (l k : ℕ) → length lines ≡ l → length classes ≡ k → Moved a (submit s m (length lines) (length classes)) called_same a' → Performed a (submit s m l k) (Ok Agreed) a'
same_performed a a' s m lines classes l k el ek moved =
    record { answer = called_same; moved = lent a a' s m lines classes l k called_same el ek moved; told = refl }

-- no call yet
pub follows_none : (n : ℕ) (a : Account) → a ≡ new n → Follows n [] [] a
follows_none n a e = let run : Run n [] a = subst (Run n []) (sym e) start in record { events = []; called = refl; told = refl; run = run; law = lasting n [] a run }

-- one call more
pub follows_more : (n : ℕ) (calls : List Call) (c : Call) (answers : List (Result Outcome Refusal)) (o : Result Outcome Refusal) (a a' : Account) → Follows n calls answers a → Performed a c o a' → Follows n (calls ++ c ∷ []) (answers ++ o ∷ []) a'
follows_more n calls c answers o a a' f p =
    let e : Event = record { call = c; answer = p.answer } in
    let number : a.number ≡ n = run_number f.run in
    let here = p.moved.law f.events (subst (λ k. Run k f.events a) (sym number) f.run) in
    record { events = e ∷ f.events; called = ap (λ cs. c ∷ cs) f.called ∙ sym (reverse-append calls (c ∷ [])); told = reverse-cons (outcome_of p.answer) (map (λ (x : Event). outcome_of x.answer) f.events) ∙ (ap (λ os. os ++ outcome_of p.answer ∷ []) f.told ∙ ap (λ x. answers ++ x ∷ []) (sym p.told)); run = subst (λ k. Run k (e ∷ f.events) a') number here.0; law = subst (λ k. Law k (e ∷ f.events)) number here.1 }

module _ {X : Type 0} (f : X → Call) (n : ℕ) (xs : List X) (places : List (Result Outcome Refusal)) where
  -- the first k calls were run, and the places behind are as they were
  abbrev pub Through : ℕ → List (Result Outcome Refusal) → Account → Type 0
  Through k places' a = Follows n (take k (map f xs)) (take k places') a × (drop k places' ≡ drop k places)

  pub through_more : (k : ℕ) (x : X) (places' : List (Result Outcome Refusal)) (o : Result Outcome Refusal) (a a' : Account) → k < length xs → k < length places' → x ≡ get_or xs k x → Through k places' a → Performed a (f x) o a' → Through (k + 1) (set places' k o) a'
  through_more k x places' o a a' l m e t p =
      let here : take (k + 1) (map f xs) ≡ take k (map f xs) ++ f x ∷ [] = take_more (map f xs) k (f x) (rw length-map l) ∙ ap (λ c. take k (map f xs) ++ c ∷ []) (get_or-map f xs k x (f x) l ∙ ap f (sym e)) in
      let told : take (k + 1) (set places' k o) ≡ take k places' ++ o ∷ [] = take_more_set places' k o m in
      (rw (here, told) (follows_more n (take k (map f xs)) (f x) (take k places') o a a' t.0 p), drop-set-lt (k + 1) places' k o (omega arith) ∙ (sym (drop-drop 1 k places') ∙ (ap (drop 1) t.1 ∙ drop-drop 1 k places)))

  pub through_all : (k : ℕ) (places' : List (Result Outcome Refusal)) (a : Account) → length xs ≤ k → k ≤ length xs → Through k places' a → Follows n (map f xs) (take (length (map f xs)) places') a × (drop (length (map f xs)) places' ≡ drop (length (map f xs)) places)
  through_all k places' a l m t =
      let e : length (map f xs) ≡ k = rw length-map (omega arith) in
      (rw e (subst (λ cs. Follows n cs (take k places') a) (take_all k (map f xs) (omega (arith, e))) t.0), rw e t.1)
