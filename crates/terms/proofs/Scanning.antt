-- The first refusal of a text, by the term put together so far.
use Rattle.std.proofs.Common.{◌≡◌, ℕ, suc, ◌+◌, ◌-◌, ◌≤◌, ◌⊎◌, List, [], ◌∷◌, length, Some, None, Option, refl, ap, ◌∙◌, inl, inr, ⊎_elim, add-zero, add-one, arith}
use Rattle.std.proofs.lemmas.Bool.{le-leb, lt-leb, lt-ltb, cases_lt}
use Rattle.terms.specs.declared.fault.TermFault.{TermFault}
use Rattle.terms.specs.declared.fault.TermFault.TheVariants.{Actions, Brackets}
use Rattle.terms.specs.Faults.{TooLarge}
use Rattle.terms.specs.Syntax.{Tree}
use Rattle.terms.specs.Grammar.{Spells, sum}
use Rattle.terms.specs.Assembly.{Partial, start, feed, feeds, then_feeds}
use Rattle.terms.specs.Reader.{scanned}
use Rattle.terms.proofs.Feeding.{Fed, acted, opening, adding, going_on, closing, fed}
use Rattle.terms.proofs.Complete.{text_put}

-- a text refused for its size
abbrev pub Oversized : Option TermFault → Type 0
Oversized o = (f : TermFault) × (o ≡ Some f) × TooLarge f

-- within the limits on actions and open brackets
pub record Within (q : Partial) : Type 0 where
  pub actions : q.actions ≤ 63
  pub brackets : length q.brackets ≤ 32

-- a byte that stands there is passed over, within the limits
fed_scan : {q : Partial} {c : ℕ} {q' : Partial} → Fed q c q' → Within q' → (at : ℕ) (cs : List ℕ) → scanned q at (c ∷ cs) ≡ scanned q' (at + 1) cs
fed_scan (acted {n = n} c e) w at cs = let k = w.actions in rw e (rw (lt-leb 63 n (omega arith)))
fed_scan (opening {bs = bs}) w at cs = let k = w.brackets in rw (lt-leb 32 (length bs) (omega arith)) (rw add-one)
fed_scan adding w at cs = refl
fed_scan going_on w at cs = refl
fed_scan (closing {bs = bs}) w at cs =
    let e : suc (length bs) - 1 ≡ length bs = omega arith in
    rw (lt-ltb 0 (suc (length bs)) (omega arith)) (rw e)

-- past a limit the text is refused for its size
fed_over : {q : Partial} {c : ℕ} {q' : Partial} → Fed q c q' → Within q → (at : ℕ) (cs : List ℕ) → Oversized (scanned q at (c ∷ cs)) ⊎ Within q'
fed_over (acted {n = n} c e) w at cs =
    ⊎_elim (λ l. inr (record { actions = omega arith; brackets = w.brackets })) (λ l. inl (Actions at, rw e (rw (le-leb 63 n l)), tt)) (cases_lt n 63)
fed_over (opening {bs = bs}) w at cs =
    ⊎_elim (λ l. inr (record { actions = w.actions; brackets = omega arith })) (λ l. inl (Brackets at, rw (le-leb 32 (length bs) l), tt)) (cases_lt (length bs) 32)
fed_over adding w at cs = inr (record { actions = w.actions; brackets = w.brackets })
fed_over going_on w at cs = inr (record { actions = w.actions; brackets = w.brackets })
fed_over closing w at cs = let k = w.brackets in inr (record { actions = w.actions; brackets = omega arith })

-- within the limits, a byte that stands there is passed over
pub feed_scan : (q q' : Partial) (c : ℕ) → feed q c ≡ Some q' → Within q' → (at : ℕ) (cs : List ℕ) → scanned q at (c ∷ cs) ≡ scanned q' (at + 1) cs
feed_scan q q' c e w at cs = fed_scan (fed q q' c e) w at cs

-- a text that can be put together is refused only for its size, or not before its end
Passed : Partial → ℕ → List ℕ → Partial → Type 0
Passed q at cs q' = Oversized (scanned q at cs) ⊎ (scanned q at cs ≡ scanned q' (at + length cs) [])

feeds_scan : (q q' : Partial) (cs : List ℕ) (at : ℕ) → Within q → feeds q cs ≡ Some q' → Passed q at cs q'
unfolding Passed
feeds_scan q q' [] at w e =
    let f : q ≡ q' = cc in
    inr (rw (add-zero at) (ap (λ z. scanned z at []) f))
feeds_scan q q' (c ∷ cs) at w e = go (λ z k f. feeds_scan z q' cs (at + 1) k f) (feed q c) refl e
  where
    on : (z : Partial) → feed q c ≡ Some z → Within z → Passed z (at + 1) cs q' → Passed q at (c ∷ cs) q'
    on z f k (inl o) = inl (rw (feed_scan q z c f k at cs) o)
    on z f k (inr o) =
        let n : at + 1 + length cs ≡ at + suc (length cs) = omega arith in
        inr (feed_scan q z c f k at cs ∙ (rw n at o))

    step : (z : Partial) → feed q c ≡ Some z → (Within z → Passed z (at + 1) cs q') → Oversized (scanned q at (c ∷ cs)) ⊎ Within z → Passed q at (c ∷ cs) q'
    step z f rest (inl o) = inl o
    step z f rest (inr k) = on z f k (rest k)

    go : ((z : Partial) → Within z → feeds z cs ≡ Some q' → Passed z (at + 1) cs q') → (o : Option Partial) → feed q c ≡ o → then_feeds o (λ z. feeds z cs) ≡ Some q' → Passed q at (c ∷ cs) q'
    go rest None f k = cc
    go rest (Some z) f k = step z f (λ v. rest z v k) (fed_over (fed q z c f) w at cs)

-- what the grammar spells is refused for nothing but its size
pub spelled_scan : (text : List ℕ) (t : Tree) → Spells sum 0 text t → Oversized (scanned start 0 text) ⊎ (scanned start 0 text ≡ None)
unfolding Passed
spelled_scan text t d =
    let h = text_put text t d in
    feeds_scan start _ text 0 (record { actions = omega arith; brackets = omega arith }) h.3
