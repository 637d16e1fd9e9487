-- Which files are accepted.
use Rattle.std.proofs.Common.{◌≡◌, ℕ, ◌+◌, ◌<◌, ◌≤◌, Bool, true, false, cond, ◌||◌, eqb, ltb, leb, List, [], ◌∷◌, ◌++◌, map, length, Some, None, Option, sym, refl, ap, ◌∙◌, subst, inl, inr, ⊎_elim, arith, length-append}
use Rattle.std.proofs.lemmas.Bool.{true≢false, eqb-true, eq-eqb, ltb-false, leb-false, le-ltb, lt-leb, or_parts, not-false, cases_lt, lt-ltb}
use Rattle.lts.specs.Meaning.{In}
use Rattle.tables.specs.Drawing.{byte, step_of, steps_of}
use Rattle.tables.specs.Kinds.{Kind, head, end, step, remark, unknown}
use Rattle.tables.specs.Laid.{Laid}
use Rattle.tables.specs.Records.{Rec, whole, entries, records_of}
use Rattle.tables.specs.Rows.{misplaced, misformed, outside, crowded, fault, or_else, refused, first_refusal}
use Rattle.tables.specs.Theorems.{Heads, Fits, Draw, AcceptedFiles}
use Rattle.tables.specs.declared.fault.TableFault.{TableFault}
use Rattle.tables.proofs.Placing.{accepted_whole, whole_laid, laid_entries}
use Rattle.tables.proofs.Taking.{steps_push}

never : {X : Type 0} {f : TableFault} → Some f ≡ None → X
never e = let z : ◌≡◌ {A = ℕ} 0 1 = cc in let b : ⊥ = omega arith in absurd b

-- no row refuses
passed : (a b c d : Bool) (w x y z : TableFault) → cond a (Some w) (cond b (Some x) (cond c (Some y) (cond d (Some z) None))) ≡ None → (a ≡ false) × (b ≡ false) × (c ≡ false) × (d ≡ false)
passed true b c d w x y z e = never e
passed false true c d w x y z e = never e
passed false false true d w x y z e = never e
passed false false false true w x y z e = never e
passed false false false false w x y z e = (refl, refl, refl, refl)

-- a record that adds so many steps to those before it has room
Room : ℕ → Kind → List ℕ → Type 0
Room before k body = before ≤ 512 → before + length (step_of k body) ≤ 512

module _ (h : Rec) (before : List Rec) where
  fits_kind : (k : Kind) (body : List ℕ) → misplaced (h ∷ before) k ≡ false → misformed k (length body) ≡ false → outside (h ∷ before) k body ≡ false → crowded (h ∷ before) k ≡ false → Fits (byte h.body 0) k body × Room (length (steps_of (h ∷ before))) k body
  unfolding Room
  fits_kind head body a b c d = absurd (true≢false a)
  fits_kind end body a b c d = ((eqb-true (length body) 1 (not-false (eqb (length body) 1) b), leb-false (byte h.body 0) (byte body 0) c), λ l. omega arith)
  fits_kind step body a b c d =
      let p = or_parts (leb (byte h.body 0) (byte body 0)) (ltb 63 (byte body 1) || leb (byte h.body 0) (byte body 2)) c in
      let q = or_parts (ltb 63 (byte body 1)) (leb (byte h.body 0) (byte body 2)) p.1 in
      let r = leb-false 512 (length (steps_of (h ∷ before))) d in
      ((eqb-true (length body) 3 (not-false (eqb (length body) 3) b), leb-false (byte h.body 0) (byte body 0) p.0, ltb-false 63 (byte body 1) q.0, leb-false (byte h.body 0) (byte body 2) q.1), λ l. omega arith)
  fits_kind remark body a b c d = (tt, λ l. omega arith)
  fits_kind (unknown k) body a b c d = absurd (true≢false b)

  fits : (r : Rec) → fault (h ∷ before) r ≡ None → Fits (byte h.body 0) r.kind r.body × Room (length (steps_of (h ∷ before))) r.kind r.body
  fits r e =
      let p = passed _ _ _ _ _ _ _ _ e in
      fits_kind r.kind r.body p.0 p.1 p.2 p.3

  pass_kind : (at : ℕ) (k : Kind) (body : List ℕ) → Fits (byte h.body 0) k body → length (steps_of (h ∷ before)) + length (step_of k body) ≤ 512 → fault (h ∷ before) (record { place = at; kind = k; body = body }) ≡ None
  pass_kind at head body f l = absurd f
  pass_kind at end body f l = rw (eq-eqb (length body) 1 f.0, lt-leb (byte h.body 0) (byte body 0) f.1)
  pass_kind at step body f l = rw (eq-eqb (length body) 3 f.0, lt-leb (byte h.body 0) (byte body 0) f.1, le-ltb 63 (byte body 1) f.2, lt-leb (byte h.body 0) (byte body 2) f.3, lt-leb 512 (length (steps_of (h ∷ before))) (omega arith))
  pass_kind at remark body f l = refl
  pass_kind at (unknown k) body f l = absurd f

-- the records behind a head are accepted exactly when they fit
AllFit : ℕ → List Rec → Type 0
AllFit n rs = (r : Rec) → In r rs → Fits n r.kind r.body

more_steps : (before : List Rec) (r : Rec) → length (steps_of (before ++ r ∷ [])) ≡ length (steps_of before) + length (step_of r.kind r.body)
more_steps before r = ap length (steps_push before r) ∙ length-append (steps_of before) (step_of r.kind r.body)

rest_fits : (h : Rec) (before rs : List Rec) → length (steps_of (h ∷ before)) ≤ 512 → refused (h ∷ before) (map whole rs) ≡ None → AllFit (byte h.body 0) rs × (length (steps_of (h ∷ before)) + length (steps_of rs) ≤ 512)
unfolding AllFit Room
rest_fits h before [] l e = (λ r i. absurd i, omega arith)
rest_fits h before (x ∷ rs) l e = go (fault (h ∷ before) x) refl e (rest_fits h (before ++ x ∷ []) rs)
  where
    go : (o : Option TableFault) → fault (h ∷ before) x ≡ o → or_else o (refused (h ∷ (before ++ x ∷ [])) (map whole rs)) ≡ None → (length (steps_of (h ∷ (before ++ x ∷ []))) ≤ 512 → refused (h ∷ (before ++ x ∷ [])) (map whole rs) ≡ None → AllFit (byte h.body 0) rs × (length (steps_of (h ∷ (before ++ x ∷ []))) + length (steps_of rs) ≤ 512)) → AllFit (byte h.body 0) (x ∷ rs) × (length (steps_of (h ∷ before)) + length (steps_of (x ∷ rs)) ≤ 512)
    go (Some f) p k more = never k
    go None p k more =
        let f = fits h before x p in
        let room = f.1 l in
        let n = more_steps (h ∷ before) x in
        let m = more (omega arith) k in
        let s = length-append (step_of x.kind x.body) (steps_of rs) in
        (each f.0 m.0, omega (arith, m.1))
      where
        each : Fits (byte h.body 0) x.kind x.body → AllFit (byte h.body 0) rs → AllFit (byte h.body 0) (x ∷ rs)
        each a b r (inl i) = subst (λ (z : Rec). Fits (byte h.body 0) z.kind z.body) (sym i) a
        each a b r (inr i) = b r i

rest_passes : (h : Rec) (before rs : List Rec) → AllFit (byte h.body 0) rs → length (steps_of (h ∷ before)) + length (steps_of rs) ≤ 512 → refused (h ∷ before) (map whole rs) ≡ None
unfolding AllFit
rest_passes h before [] a l = refl
rest_passes h before (x ∷ rs) a l =
    let s = length-append (step_of x.kind x.body) (steps_of rs) in
    let n = more_steps (h ∷ before) x in
    let f : fault (h ∷ before) x ≡ None = pass_kind h before x.place x.kind x.body (a x (inl refl)) (omega arith) in
    ap (λ o. or_else o (refused (h ∷ (before ++ x ∷ [])) (map whole rs))) f ∙ rest_passes h (before ++ x ∷ []) rs (λ r i. a r (inr i)) (omega arith)

-- the head
head_kind : (k : Kind) (body : List ℕ) → misplaced [] k ≡ false → misformed k (length body) ≡ false → outside [] k body ≡ false → (k ≡ head) × (length body ≡ 1) × (1 ≤ byte body 0) × (byte body 0 ≤ 128)
head_kind head body a b c =
    let p = or_parts (ltb (byte body 0) 1) (ltb 128 (byte body 0)) c in
    (refl, eqb-true (length body) 1 (not-false (eqb (length body) 1) b), ltb-false (byte body 0) 1 p.0, ltb-false 128 (byte body 0) p.1)
head_kind end body a b c = absurd (true≢false a)
head_kind step body a b c = absurd (true≢false a)
head_kind remark body a b c = absurd (true≢false a)
head_kind (unknown k) body a b c = absurd (true≢false a)

heads : (r : Rec) → fault [] r ≡ None → Heads r
heads r e =
    let p = passed _ _ _ _ _ _ _ _ e in
    let h = head_kind r.kind r.body p.0 p.1 p.2 in
    record { kind = h.0; size = h.1; some = h.2; few = h.3 }

head_passes : (r : Rec) → Heads r → fault [] r ≡ None
head_passes r h =
    rw (h.kind, eq-eqb (length r.body) 1 h.size, le-ltb (byte r.body 0) 1 h.some, le-ltb 128 (byte r.body 0) h.few)

no_steps : (r : Rec) → Heads r → steps_of (r ∷ []) ≡ []
no_steps r h = ap (λ k. step_of k r.body ++ []) h.kind

drawn : (rs : List Rec) → refused [] (map whole rs) ≡ None → Draw rs
unfolding AllFit
drawn [] e = never e
drawn (h ∷ rs) e = go (fault [] h) refl e
  where
    go : (o : Option TableFault) → fault [] h ≡ o → or_else o (refused (h ∷ []) (map whole rs)) ≡ None → Draw (h ∷ rs)
    go (Some f) p k = never k
    go None p k =
        let s = heads h p in
        let n = ap length (no_steps h s) in
        let m = rest_fits h [] rs (omega arith) k in
        (s, m.0, omega (arith, m.1))

draws : (rs : List Rec) → Draw rs → refused [] (map whole rs) ≡ None
unfolding AllFit
draws [] d = absurd d
draws (h ∷ rs) d =
    let n = ap length (no_steps h d.0) in
    ap (λ o. or_else o (refused (h ∷ []) (map whole rs))) (head_passes h d.0) ∙ rest_passes h [] rs d.1 (omega (arith, d.2))

pub accepted_files : AcceptedFiles
accepted_files file = (accepted, λ d. accepts d.0 d.1.0 d.1.1 d.1.2)
  where
    accepts : length file ≤ 16384 → (rs : List Rec) → Laid 0 rs file → Draw rs → first_refusal file ≡ None
    accepts l rs d w = rw (le-ltb 16384 (length file) l) (ap (refused []) (laid_entries file rs d) ∙ draws rs w)

    accepted : first_refusal file ≡ None → (length file ≤ 16384) × ((rs : List Rec) × Laid 0 rs file × Draw rs)
    accepted e = ⊎_elim long short (cases_lt 16384 (length file))
      where
        long : 16384 < length file → (length file ≤ 16384) × ((rs : List Rec) × Laid 0 rs file × Draw rs)
        long l = never (rw (lt-ltb 16384 (length file) l) at e)

        short : length file ≤ 16384 → (length file ≤ 16384) × ((rs : List Rec) × Laid 0 rs file × Draw rs)
        short l =
            let n : refused [] (entries file) ≡ None = rw (le-ltb 16384 (length file) l) at e in
            let d = whole_laid file (accepted_whole [] (entries file) (sym n)) in
            (l, (records_of file, d, drawn (records_of file) (sym (ap (refused []) (laid_entries file (records_of file) d)) ∙ n)))
