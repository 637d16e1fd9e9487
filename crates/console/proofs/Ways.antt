-- The ways that a line can go, by what it asks for.
use Rattle.std.proofs.Common.{◌≡◌, ℕ, List, [], ◌++◌, set, Some, None, codes, decimal, Option, sym, refl, ap, ◌∙◌, subst, inl, arith, lit≤}
use Rattle.refusals.specs.Texts.{refusal_text}
use Rattle.lts.specs.Joined.{joined}
use Rattle.lts.specs.Laws.Joined.{joined_lawful}
use Rattle.lts.specs.Map.{mapped}
use Rattle.lts.specs.Meaning.{Meaning, Lawful}
use Rattle.theory.proofs.Relations.{lawful_inside}
use Rattle.theory.proofs.Stability.{class_count, rounds_determined, all_closed}
use Rattle.theory.specs.Formulas.{Formula, depth}
use Rattle.theory.specs.Rounds.{all_of}
use Rattle.terms.proofs.Complete.{text_put}
use Rattle.terms.specs.Assembly.{Partial, Place, ahead, past, plus, start, feeds}
use Rattle.terms.specs.Faults.{of_term}
use Rattle.terms.specs.Grammar.{Spells, sum}
use Rattle.terms.specs.Graph.{graph}
use Rattle.terms.specs.Scan.{first_refusal}
use Rattle.terms.specs.Syntax.{Tree, leaf}
use Rattle.terms.specs.declared.fault.TermFault.{TermFault}
use Rattle.accounts.proofs.Determined.{never, does_same}
use Rattle.accounts.specs.Account.{Account, Filled, Alike, Least}
use Rattle.accounts.specs.Calls as shelf
use Rattle.accounts.specs.Calls.{Answer, accepted, called_same, called_different, cleared, refused, Does}
use Rattle.commands.specs.Form.{Request, file, submit, release, withdraw, rename}
use Rattle.commands.specs.Texts.{line_text}
use Rattle.commands.specs.declared.verb.Verb.TheVariants.{File, Submit, Release, Withdraw}
use Rattle.console.specs.Handling.{Means, Counted, submission, refused_text}
use Rattle.console.specs.States.{State, state}

-- the tree of a text that was put together whole
assembled : Option Partial → Tree
assembled None = leaf 0 0
assembled (Some q) = at_place q.place
  where
    at_place : Place → Tree
    at_place (ahead o) = leaf 0 0
    at_place (past x) = plus q.sum x

spelled_is : (text : List ℕ) (t : Tree) → Spells sum 0 text t → t ≡ assembled (feeds start text)
unfolding assembled
spelled_is text t d = let p = text_put text t d in sym p.2 ∙ sym (ap assembled p.3)

-- a text spells one term at most
spelled_same : (text : List ℕ) (t u : Tree) → Spells sum 0 text t → Spells sum 0 text u → t ≡ u
spelled_same text t u d e = spelled_is text t d ∙ sym (spelled_is text u e)

means_same : {entries text : List ℕ} {m m' : Meaning} → Means entries text m → Means entries text m' → m ≡ m'
means_same {entries} {text} a b = a.meant ∙ (ap (λ t. mapped entries (graph t)) (spelled_same text a.term b.term a.spelled b.spelled) ∙ sym b.meant)

-- a filing has one answer, and so has a claim
file_same : {a : Account} {s : ℕ} {m : Meaning} {r r' : Answer} {b b' : Account} → Does a (shelf.file s m) r b → Does a (shelf.file s m) r' b' → r ≡ r'
file_same (shelf.refuses e) (shelf.refuses f) = cc
file_same (shelf.refuses e) (shelf.files f) = never (cc)
file_same (shelf.files e) (shelf.refuses f) = never (cc)
file_same (shelf.files e) (shelf.files f) = refl

claim_same : {a : Account} {s : ℕ} {r r' : Answer} {b b' : Account} → Does a (shelf.claim s) r b → Does a (shelf.claim s) r' b' → r ≡ r'
claim_same (shelf.refuses e) (shelf.refuses f) = cc
claim_same (shelf.refuses e) (shelf.claims f q) = never (cc)
claim_same (shelf.claims e q) (shelf.refuses f) = never (cc)
claim_same (shelf.claims e q) (shelf.claims f p) = refl

-- what a submission prints behind the slot
pub data Prints : Option Filled → Meaning → Answer → List ℕ → Type 0 where
  same : {o : Option Filled} {m : Meaning} {y : Filled} {K r : ℕ} → o ≡ Some y → Counted y.force m K r → Prints o m called_same (codes "same " ++ (decimal K ++ (codes " " ++ decimal r)))
  different : {o : Option Filled} {m : Meaning} {f : Formula} → Prints o m (called_different f) (codes "different " ++ decimal (depth f))
  not_taken : {o : Option Filled} {m : Meaning} {n : ℕ} → Prints o m (refused n) (refused_text n)

counted_same : (p q : Meaning) → Lawful 128 p → Lawful 128 q → {K L r t : ℕ} → Counted p q K r → Counted p q L t → (K ≡ L) × (r ≡ t)
counted_same p q lp lq {K} {L} {r} {t} c d =
    let j = joined p q in
    let closed = all_closed j (lawful_inside 256 j (joined_lawful p q lp lq)) in
    (class_count j (all_of j) K L c.numbers d.numbers closed c.classes d.classes, rounds_determined j (all_of j) r t c.rounds d.rounds)

-- two formulas of the least depth have the same
least_same : (p q : Meaning) (f g : Formula) → Least p q f → Least p q g → depth f ≡ depth g
least_same p q f g a b = let l = a.1 g (inl b.0) in let m = b.1 f (inl a.0) in omega arith

differ_least : {a : Account} {s l k : ℕ} {m : Meaning} {f : Formula} {b : Account} → Does a (shelf.submit s m l k) (called_different f) b → (x : Filled) × (a.slots s ≡ Some x) × Least x.force m f
differ_least (shelf.differs {x = x} e q u g) = (x, q, g)

print_same : {a : Account} {s : ℕ} {m : Meaning} {r r' : Answer} {b b' : Account} {out out' : List ℕ} → Lawful 128 m → ((y : Filled) → a.slots s ≡ Some y → Lawful 128 y.force) → Does a (submission s m) r b → Does a (submission s m) r' b' → Prints (a.slots s) m r out → Prints (a.slots s) m r' out' → out ≡ out'
print_same {m = m} law laws d e (same {y = y} {K = K} {r = r} p c) (same {y = z} {K = L} {r = t} q k) =
    let i : z ≡ y = cc in
    let h = counted_same y.force m (laws y p) law c (subst (λ v. Counted v.force m L t) i k) in
    ap (λ n. codes "same " ++ (decimal n ++ (codes " " ++ decimal r))) h.0 ∙ ap (λ n. codes "same " ++ (decimal L ++ (codes " " ++ decimal n))) h.1
print_same {m = m} law laws (shelf.agrees {x = x} e f g) (shelf.differs {x = z} e' f' g' h') (same p c) different = let i : x ≡ z = cc in absurd (g' (subst (λ v. Alike v.force m) i g))
print_same law laws (shelf.agrees e f g) (shelf.refuses e') (same p c) not_taken = never (cc)
print_same {m = m} law laws (shelf.differs {x = z} e' f' g' h') (shelf.agrees {x = x} e f g) different (same p c) = let i : x ≡ z = cc in absurd (g' (subst (λ v. Alike v.force m) i g))
print_same {m = m} law laws d e (different {f = f}) (different {f = g}) =
    let p = differ_least d in
    let q = differ_least e in
    let u = p.1 in
    let w = q.1 in
    let i : q.0 ≡ p.0 = cc in
    ap (λ n. codes "different " ++ decimal n) (least_same p.0.force m f g p.2 (subst (λ v. Least v.force m g) i q.2))
print_same law laws (shelf.differs e' f' g' h') (shelf.refuses e) different not_taken = never (cc)
print_same law laws (shelf.refuses e') (shelf.agrees e f g) not_taken (same p c) = never (cc)
print_same law laws (shelf.refuses e) (shelf.differs e' f' g' h') not_taken different = never (cc)
print_same law laws (shelf.refuses {n = n} e) (shelf.refuses {n = k} f) not_taken not_taken = let i : n ≡ k = cc in ap refused_text i

-- what is printed of a filing, a release or a withdrawal
abbrev pub plain_text : Answer → List ℕ
plain_text accepted = codes "ok"
plain_text called_same = []
plain_text (called_different f) = []
plain_text (cleared h i k) = []
plain_text (refused n) = refused_text n

-- how a line that asks for this came out
pub data Way : State → Request → List ℕ → State → Type 0 where
  renamed : {x : State} {a b : ℕ} → Way x (rename a b) (codes "M ok") (state x.account (set x.entries a b))
  unread_file : {x : State} {s : ℕ} {text : List ℕ} {f : TermFault} → first_refusal text ≡ Some f → Way x (file s text) (line_text File s (refusal_text (of_term f))) x
  unread_submit : {x : State} {s : ℕ} {text : List ℕ} {f : TermFault} → first_refusal text ≡ Some f → Way x (submit s text) (line_text Submit s (refusal_text (of_term f))) x
  filed : {x : State} {s : ℕ} {text : List ℕ} {m : Meaning} {r : Answer} {a : Account} → Means x.entries text m → Does x.account (shelf.file s m) r a → Way x (file s text) (line_text File s (plain_text r)) (state a x.entries)
  submitted : {x : State} {s : ℕ} {text out : List ℕ} {m : Meaning} {r : Answer} {a : Account} → Means x.entries text m → Does x.account (submission s m) r a → Prints (x.account.slots s) m r out → Way x (submit s text) (line_text Submit s out) (state a x.entries)
  released : {x : State} {s h i k : ℕ} {a b : Account} → Does x.account (shelf.claim s) (cleared h i k) a → Does a (shelf.release h i k) accepted b → Way x (release s) (line_text Release s (codes "ok")) (state b x.entries)
  unreleased : {x : State} {s n : ℕ} {a : Account} → Does x.account (shelf.claim s) (refused n) a → Way x (release s) (line_text Release s (refused_text n)) (state a x.entries)
  withdrawn : {x : State} {s h i k : ℕ} {a b : Account} → Does x.account (shelf.claim s) (cleared h i k) a → Does a (shelf.withdraw h i k) accepted b → Way x (withdraw s) (line_text Withdraw s (codes "ok")) (state b x.entries)
  unwithdrawn : {x : State} {s n : ℕ} {a : Account} → Does x.account (shelf.claim s) (refused n) a → Way x (withdraw s) (line_text Withdraw s (refused_text n)) (state a x.entries)

-- the same text means nothing where it is refused
unmeant : {X : Type 0} {entries text : List ℕ} {m : Meaning} {f : TermFault} → Means entries text m → first_refusal text ≡ Some f → X
unmeant w e = let u = w.unrefused in never (cc)

-- the clearances of one claim are one, and so is the account behind them
claim_once : {a : Account} {s h i k h' i' k' : ℕ} {b b' : Account} (call : ℕ → ℕ → ℕ → shelf.Call) {c c' : Account} → Does a (shelf.claim s) (cleared h i k) b → Does a (shelf.claim s) (cleared h' i' k') b' → Does b (call h i k) accepted c → Does b' (call h' i' k') accepted c' → c ≡ c'
claim_once {h = h} {i = i} {k = k} {h' = h'} {i' = i'} {k' = k'} {b = b} {b' = b'} call {c} {c'} d e f g =
    let r = claim_same d e in
    let p : h ≡ h' = cc in
    let q : i ≡ i' = cc in
    let o : k ≡ k' = cc in
    let same_call : call h i k ≡ call h' i' k' = cc in
    does_same (subst (λ z. Does z (call h' i' k') accepted c) (does_same d e) (subst (λ z. Does b z accepted c) same_call f)) g

-- a state that some lines lead to holds lawful procedures
abbrev pub LawfulSlots : Account → Type 0
LawfulSlots a = (s : ℕ) (y : Filled) → a.slots s ≡ Some y → Lawful 128 y.force

-- and so does what is submitted
abbrev pub LawfulWay : {x : State} {q : Request} {out : List ℕ} {y : State} → Way x q out y → Type 0
LawfulWay renamed = Unit {0}
LawfulWay (unread_file e) = Unit {0}
LawfulWay (unread_submit e) = Unit {0}
LawfulWay (filed w d) = Unit {0}
LawfulWay (submitted {m = m} w d p) = Lawful 128 m
LawfulWay (released d e) = Unit {0}
LawfulWay (unreleased d) = Unit {0}
LawfulWay (withdrawn d e) = Unit {0}
LawfulWay (unwithdrawn d) = Unit {0}

pub one_way : {x : State} {q : Request} {out out' : List ℕ} {y y' : State} → LawfulSlots x.account → (w : Way x q out y) → LawfulWay w → Way x q out' y' → (out ≡ out') × (y ≡ y')
one_way laws renamed l renamed = (refl, refl)
one_way laws (unread_file {s = s} {f = f} e) l (unread_file {f = g} e') = let i : f ≡ g = cc in (ap (λ z. line_text File s (refusal_text (of_term z))) i, refl)
one_way laws (unread_file e) l (filed w d) = unmeant w e
one_way laws (filed w d) l (unread_file e) = unmeant w e
one_way laws (filed {x} {s} {r = r} {a = a} w d) l (filed {m = m} {r = r'} w' d') =
    let e = subst (λ z. Does x.account (shelf.file s z) r a) (means_same w w') d in
    (ap (λ z. line_text File s (plain_text z)) (file_same e d'), ap (λ z. state z x.entries) (does_same e d'))
one_way laws (unread_submit {s = s} {f = f} e) l (unread_submit {f = g} e') = let i : f ≡ g = cc in (ap (λ z. line_text Submit s (refusal_text (of_term z))) i, refl)
one_way laws (unread_submit e) l (submitted w d p) = unmeant w e
one_way laws (submitted w d p) l (unread_submit e) = unmeant w e
one_way laws (submitted {x} {s} {out = out} {m = m} {r = r} {a = a} w d p) l (submitted w' d' p') =
    let i = means_same w w' in
    let e = subst (λ z. Does x.account (submission s z) r a) i d in
    (ap (line_text Submit s) (print_same (subst (Lawful 128) i l) (laws s) e d' (subst (λ z. Prints (x.account.slots s) z r out) i p) p'), ap (λ z. state z x.entries) (does_same e d'))
one_way laws (released {x} d e) l (released d' e') = (refl, ap (λ z. state z x.entries) (claim_once shelf.release d d' e e'))
one_way laws (released d e) l (unreleased d') = let r = claim_same d d' in never (cc)
one_way laws (unreleased d) l (released d' e') = let r = claim_same d d' in never (cc)
one_way laws (unreleased {x} {s} {n} d) l (unreleased {n = k} d') = let r = claim_same d d' in let i : n ≡ k = cc in (ap (λ z. line_text Release s (refused_text z)) i, ap (λ z. state z x.entries) (does_same d d'))
one_way laws (withdrawn {x} d e) l (withdrawn d' e') = (refl, ap (λ z. state z x.entries) (claim_once shelf.withdraw d d' e e'))
one_way laws (withdrawn d e) l (unwithdrawn d') = let r = claim_same d d' in never (cc)
one_way laws (unwithdrawn d) l (withdrawn d' e') = let r = claim_same d d' in never (cc)
one_way laws (unwithdrawn {x} {s} {n} d) l (unwithdrawn {n = k} d') = let r = claim_same d d' in let i : n ≡ k = cc in (ap (λ z. line_text Withdraw s (refused_text z)) i, ap (λ z. state z x.entries) (does_same d d'))
