-- Reading a text from its front: what holds after each byte, and at the end.
use Rattle.std.proofs.Common.{◌≡◌, ℕ, ◌+◌, ◌<◌, ◌≤◌, List, [], ◌∷◌, ◌++◌, length, get_or, take, drop, IfOk, Some, None, Ok, Err, Option, Result, sym, refl, ap, ◌∙◌, subst, ⊎_elim, arith, MatchResult}
use Rattle.std.proofs.lemmas.List.{take_more, drop_more, take_all, drop_all}
use Rattle.std.proofs.lemmas.Bool.{le-ltb}
use Rattle.terms.specs.declared.fault.TermFault.{TermFault}
use Rattle.terms.specs.declared.term.Term.{Term}
use Rattle.terms.specs.declared.term.reader.Reader.{Reader}
use Rattle.terms.specs.Faults.{TooLarge}
use Rattle.terms.specs.Syntax.{Tree, size, Numbered}
use Rattle.terms.specs.Grammar.{Level, Spells, sum, action, bracket, one_operand, more_operands, one_product, more_products}
use Rattle.terms.specs.Graph.{ByRules, graph}
use Rattle.terms.specs.Scan.{first_refusal}
use Rattle.terms.specs.Assembly.{Partial, start, past, plus, feed, feeds, then_feeds}
use Rattle.terms.specs.Reader.{partial, scanned, Counted, Finished}
use Rattle.terms.specs.Reading.{refusal_of}
use Rattle.terms.specs.Terms.{tree_of}
use Rattle.terms.proofs.Complete.{text_put}
use Rattle.terms.proofs.Derived.{by_rules}
use Rattle.terms.proofs.Finishing.{depth_is}
use Rattle.terms.proofs.Letters.{letter_bound}
use Rattle.terms.proofs.Scanning.{Within, Oversized, feed_scan, spelled_scan}
use Rattle.terms.proofs.Spelled.{text_spelled}

-- after i bytes
pub record Progress (text : List ℕ) (i : ℕ) (r : Reader) : Type 0 where
  pub fed : feeds start (take i text) ≡ Some (partial r)
  pub rest : scanned (partial r) i (drop i text) ≡ scanned start 0 text

pub progress_start : (text : List ℕ) (r : Reader) → partial r ≡ start → Progress text 0 r
progress_start text r e = record { fed = ap Some (sym e); rest = ap (λ q. scanned q 0 text) e }

feeds_push : (q q' : Partial) (xs : List ℕ) (c : ℕ) → feeds q xs ≡ Some q' → feeds q (xs ++ c ∷ []) ≡ feed q' c
feeds_push q q' [] c e = let f : q ≡ q' = cc in rw f (last (feed q' c))
  where
    last : (o : Option Partial) → then_feeds o (λ z. Some z) ≡ o
    last None = refl
    last (Some z) = refl
feeds_push q q' (x ∷ xs) c e = go (λ z f. feeds_push z q' xs c f) (feed q x) e
  where
    go : ((z : Partial) → feeds z xs ≡ Some q' → feeds z (xs ++ c ∷ []) ≡ feed q' c) → (o : Option Partial) → then_feeds o (λ z. feeds z xs) ≡ Some q' → then_feeds o (λ z. feeds z (xs ++ c ∷ [])) ≡ feed q' c
    go more None f = cc
    go more (Some z) f = more z f

within : (r : Reader) → Within (partial r)
within r = let d = depth_is r in let h = r.shallow in record { actions = r.few; brackets = omega arith }

pub progress_more : (text : List ℕ) (i : ℕ) (r r' : Reader) → i < length text → Progress text i r → feed (partial r) (get_or text i 0) ≡ Some (partial r') → Progress text (i + 1) r'
progress_more text i r r' l p e =
    let c = get_or text i 0 in
    let rest : scanned (partial r) i (c ∷ drop (i + 1) text) ≡ scanned start 0 text = subst (λ zs. scanned (partial r) i zs ≡ scanned start 0 text) (drop_more text i 0 l) p.rest in
    record { fed = ap (feeds start) (take_more text i 0 l) ∙ (feeds_push start (partial r) (take i text) c p.fed ∙ e); rest = sym (feed_scan (partial r) (partial r') c e (within r') i (drop (i + 1) text)) ∙ rest }

-- a byte was refused
pub progress_stop : (text : List ℕ) (i : ℕ) (r : Reader) (f : TermFault) → i < length text → Progress text i r → ((cs : List ℕ) → scanned (partial r) i (get_or text i 0 ∷ cs) ≡ Some f) → scanned start 0 text ≡ Some f
progress_stop text i r f l p h =
    sym (subst (λ zs. scanned (partial r) i zs ≡ scanned start 0 text) (drop_more text i 0 l) p.rest) ∙ h (drop (i + 1) text)

-- actions are numbered as they are written
spells_numbered : {l : Level} {i : ℕ} {xs : List ℕ} {t : Tree} → Spells l i xs t → Numbered i t
spells_numbered (action d) = let b = letter_bound d in (omega arith, refl)
spells_numbered (bracket d) = spells_numbered d
spells_numbered (one_operand d) = spells_numbered d
spells_numbered (more_operands d e) = (spells_numbered d, spells_numbered e)
spells_numbered (one_product d) = spells_numbered d
spells_numbered (more_products d e) = (spells_numbered d, spells_numbered e)

-- what is spelled is what was put together
unique : (text : List ℕ) (s : Option Tree) (x u : Tree) (n : ℕ) → feeds start text ≡ Some (record { brackets = []; sum = s; place = past x; actions = n }) → Spells sum 0 text u → (plus s x ≡ u) × (size u ≡ n)
unique text s x u n e d =
    let h = text_put text u d in
    let k = h.3 in
    let q : ◌≡◌ {A = Partial} (record { brackets = []; sum = s; place = past x; actions = n }) (record { brackets = []; sum = h.0; place = past h.1; actions = size u }) = cc in
    let a : s ≡ h.0 = ap (λ (z : Partial). z.sum) q in
    let o : past x ≡ past h.1 = ap (λ (z : Partial). z.place) q in
    let b : x ≡ h.1 = cc in
    ((λ i. plus (a i) (b i)) ∙ h.2, sym (ap (λ (z : Partial). z.actions) q))

module _ (text : List ℕ) (r : Reader) (p : Progress text (length text) r) where
  all_fed : feeds start text ≡ Some (partial r)
  all_fed = subst (λ zs. feeds start zs ≡ Some (partial r)) (take_all (length text) text (omega arith)) p.fed

  all_scanned : scanned (partial r) (length text) [] ≡ scanned start 0 text
  all_scanned = subst (λ zs. scanned (partial r) (length text) zs ≡ scanned start 0 text) (drop_all (length text) text (omega arith)) p.rest

  pub progress_counted : Counted (partial r)
  progress_counted s x n e =
      let f = all_fed ∙ ap Some e in
      let d = text_spelled s x n text f in
      ((unique text s x (plus s x) n f d).1, spells_numbered d)

  progress_end : (t : Result Term TermFault) → Finished r (length text) t → refusal_of t ≡ scanned start 0 text
  progress_end (Ok t) h = sym (sym all_scanned ∙ ap (λ q. scanned q (length text) []) h.2)
  progress_end (Err f) h = sym (sym all_scanned ∙ h)

  progress_spelled : (t : Term) → Finished r (length text) (Ok t) → Spells sum 0 text (tree_of t)
  progress_spelled t h = subst (Spells sum 0 text) (sym h.3) (text_spelled h.0 h.1 r.actions text (all_fed ∙ ap Some h.2))

  progress_unique : (t : Term) (u : Tree) → Finished r (length text) (Ok t) → Spells sum 0 text u → tree_of t ≡ u
  progress_unique t u h d = h.3 ∙ (unique text h.0 h.1 u r.actions (all_fed ∙ ap Some h.2) d).0

-- what is spelled is refused only for its size
refused_large : (text : List ℕ) (f : TermFault) (u : Tree) → scanned start 0 text ≡ Some f → Spells sum 0 text u → TooLarge f
refused_large text f u e d = ⊎_elim large none (spelled_scan text u d)
  where
    large : Oversized (scanned start 0 text) → TooLarge f
    large h = let k = h.1 in let g : h.0 ≡ f = cc in subst TooLarge g h.2

    none : scanned start 0 text ≡ None → TooLarge f
    none h = cc

-- what reading a text promises of its answer
abbrev pub Promised : List ℕ → Result Term TermFault → Type 0
Promised text r = record { refuses : refusal_of r ≡ first_refusal text; spelled : IfOk r (λ t. Spells sum 0 text (tree_of t)); reads : (u : Tree) → Spells sum 0 text u → MatchResult r (λ t. tree_of t ≡ u) TooLarge; derived : IfOk r (λ t. ByRules (tree_of t) (graph (tree_of t))) }

short_refusal : (text : List ℕ) (o : Option TermFault) → length text ≤ 512 → o ≡ scanned start 0 text → o ≡ first_refusal text
short_refusal text o l e = rw (le-ltb 512 (length text) l) e

pub refused_promised : (text : List ℕ) (f : TermFault) → length text ≤ 512 → scanned start 0 text ≡ Some f → Promised text (Err f)
refused_promised text f l e = record { refuses = short_refusal text (Some f) l (sym e); spelled = tt; reads = λ u d. refused_large text f u e d; derived = tt }

pub finished_promised : (text : List ℕ) (r : Reader) (t : Result Term TermFault) → length text ≤ 512 → Progress text (length text) r → Finished r (length text) t → Promised text t
finished_promised text r (Ok t) l p h = record { refuses = short_refusal text None l (progress_end text r p (Ok t) h); spelled = progress_spelled text r p t h; reads = λ u d. progress_unique text r p t u h d; derived = by_rules (tree_of t) t.order }
finished_promised text r (Err f) l p h = refused_promised text f l (sym (progress_end text r p (Err f) h))
