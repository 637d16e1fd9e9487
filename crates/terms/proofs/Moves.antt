-- Each move of the reader, held against the term put together so far.
use Rattle.std.proofs.Common.{◌≡◌, ℕ, zero, suc, ◌+◌, ◌-◌, ◌<◌, ◌≤◌, ◌≢◌, true, false, List, ◌∷◌, length, get_or, set, Some, None, Ok, Err, Option, Result, sym, refl, ap, ◌∙◌, subst, add-one, arith}
use Rattle.std.proofs.lemmas.Bool.{le-leb, ne_eqb}
use Rattle.std.proofs.lemmas.List.{get_or-set_same, get_or-set_other}
use Rattle.terms.specs.Syntax.{Tree, leaf}
use Rattle.terms.specs.Assembly.{Place, ahead, past, Opened, Partial, plus, times, action_of, closed}
use Rattle.terms.specs.Names.{known, named, stacked, Below, Framed, one}
use Rattle.terms.specs.Reader.{held, partial, opened, scanned, Acted, Took}
use Rattle.terms.specs.Scan.{is_action}
use Rattle.terms.specs.Table.{at, Joined}
use Rattle.terms.specs.declared.fault.TermFault.{TermFault}
use Rattle.terms.specs.declared.fault.TermFault.TheVariants.{Misplaced}
use Rattle.terms.specs.declared.nodes.Nodes.{Nodes}
use Rattle.terms.specs.declared.term.reader.Frame.{Frame}
use Rattle.terms.specs.declared.term.reader.Reader.{Reader}
use Rattle.terms.specs.declared.term.reader.Position.TheVariants.{Before, Behind}
use Rattle.terms.proofs.Growing.{known_grown, opened_grown, grown_grown}

pub same_partial : {bs bs' : List Opened} {s s' : Option Tree} {p p' : Place} {n n' : ℕ} → bs ≡ bs' → s ≡ s' → p ≡ p' → n ≡ n' → ◌≡◌ {A = Partial} (record { brackets = bs; sum = s; place = p; actions = n }) (record { brackets = bs'; sum = s'; place = p'; actions = n' })
same_partial e f g h = λ i. record { brackets = e i; sum = f i; place = g i; actions = h i }

-- what is named where the position is known
pub at_before : (r : Reader) (p : Option ℕ) → r.position ≡ Before p → Below r.nodes.used p
at_before r p e = subst (λ v. Below r.nodes.used (named v)) e r.placed

pub act_lands : (r : Reader) (n₁ n₂ : Nodes) (p : Option ℕ) (a k m : ℕ) → r.position ≡ Before p → Joined r.nodes (leaf a (r.actions + 1)) 1 k n₁ → Joined n₁ (times (known (at n₁) p) (at n₁ k)) (one p) m n₂ → held n₂ (stacked r.frames r.depth) r.sum (Behind m) (r.actions + 1) ≡ record (partial r) { place = past (times (known (at r.nodes) p) (leaf a (r.actions + 1))); actions = r.actions + 1 }
act_lands r n₁ n₂ p a k m e j i =
    let g = grown_grown r.nodes n₁ n₂ j.grown i.grown in
    let same = known_grown r.nodes n₁ j.grown p (at_before r p e) in
    let top : at n₂ m ≡ times (known (at r.nodes) p) (leaf a (r.actions + 1)) = i.tree ∙ (λ z. times (same z) (j.tree z)) in
    same_partial (opened_grown r.nodes n₂ g (stacked r.frames r.depth) r.framed) (known_grown r.nodes n₂ g r.sum r.summed) (ap past top) refl

-- frames above the stack don't count
stacked_kept : (fs : List Frame) (n m : ℕ) (f : Frame) → m ≤ n → stacked (set fs n f) m ≡ stacked fs m
stacked_kept fs n zero f l = refl
stacked_kept fs n (suc m) f l =
    let ne : m ≢ n = λ e. (let z : ⊥ = omega arith in z) in
    let a = get_or-set_other fs n m f (record { sum = None; product = None }) ne in
    let b = stacked_kept fs n m f (omega arith) in
    λ i. a i ∷ b i

pub stacked_push : (fs : List Frame) (n : ℕ) (f : Frame) → n < length fs → stacked (set fs n f) (n + 1) ≡ f ∷ stacked fs n
stacked_push fs n f l =
    let a = get_or-set_same fs n f (record { sum = None; product = None }) l in
    let b = stacked_kept fs n n f (omega arith) in
    rw add-one (λ i. a i ∷ b i)

pub stacked_pop : (fs : List Frame) (n : ℕ) → 0 < n → stacked fs n ≡ get_or fs (n - 1) (record { sum = None; product = None }) ∷ stacked fs (n - 1)
stacked_pop fs zero l = absurd (omega arith)
stacked_pop fs (suc m) l = let e : suc m - 1 ≡ m = omega arith in rw e

pub choose_lands : (r : Reader) (n₁ : Nodes) (x k : ℕ) → Joined r.nodes (plus (known (at r.nodes) r.sum) (at r.nodes x)) (one r.sum) k n₁ → held n₁ (stacked r.frames r.depth) (Some k) (Before None) r.actions ≡ record (partial r) { sum = Some (plus (partial r).sum (at r.nodes x)); place = ahead None }
choose_lands r n₁ x k j =
    same_partial (opened_grown r.nodes n₁ j.grown (stacked r.frames r.depth) r.framed) (ap Some j.tree) refl refl

pub close_lands : (r : Reader) (n₁ n₂ : Nodes) (f : Frame) (x w m : ℕ) → stacked r.frames r.depth ≡ f ∷ stacked r.frames (r.depth - 1) → Joined r.nodes (plus (known (at r.nodes) r.sum) (at r.nodes x)) (one r.sum) w n₁ → Joined n₁ (times (known (at n₁) f.product) (at n₁ w)) (one f.product) m n₂ → closed (partial r).brackets (plus (partial r).sum (at r.nodes x)) r.actions ≡ Some (held n₂ (stacked r.frames (r.depth - 1)) f.sum (Behind m) r.actions)
close_lands r n₁ n₂ f x w m e j i =
    let g = grown_grown r.nodes n₁ n₂ j.grown i.grown in
    let framed : Framed r.nodes.used (f ∷ stacked r.frames (r.depth - 1)) = rw e at r.framed in
    let product = known_grown r.nodes n₁ j.grown f.product framed.0.1 in
    let top : at n₂ m ≡ times (known (at r.nodes) f.product) (plus (partial r).sum (at r.nodes x)) = i.tree ∙ (λ z. times (product z) (j.tree z)) in
    let same = same_partial (opened_grown r.nodes n₂ g (stacked r.frames (r.depth - 1)) framed.1) (known_grown r.nodes n₂ g f.sum framed.0.0) (ap past top) refl in
    ap (λ z. closed (opened (at r.nodes) z) (plus (partial r).sum (at r.nodes x)) r.actions) e ∙ sym (ap Some same)

-- the byte of an action, read or refused
pub act_takes : (r r' : Reader) (p : Option ℕ) (c a offset : ℕ) (o : Result (Unit {0}) TermFault) → r.position ≡ Before p → (is_action c ≡ true) × (action_of c ≡ a) → Acted r p a offset o r' → Took r offset c o r'
act_takes r r' p c a offset (Ok done) e f h = rw (e, f.0, f.1) (ap Some (sym h))
act_takes r r' p c a offset (Err fault) e f h = λ cs. rw (e, f.0, le-leb 63 r.actions h.1) (ap Some (sym h.0))

-- a byte that is no action and no '('
pub misfit : (r : Reader) (p : Option ℕ) (c offset : ℕ) → r.position ≡ Before p → is_action c ≡ false → (c ≡ 40 → ⊥) → (cs : List ℕ) → scanned (partial r) offset (c ∷ cs) ≡ Some (Misplaced offset)
misfit r p c offset e f g cs = rw (e, f, ne_eqb c 40 g)
