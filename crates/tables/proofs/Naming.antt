-- A state is an end exactly when some end record names it.
use Rattle.std.proofs.Common.{◌≡◌, ℕ, true, List, [], ◌∷◌, sym, refl, subst, inl, inr, ⊎_elim}
use Rattle.std.proofs.lemmas.Bool.{eqb-true, eq-eqb, or_cases, or_left, or_right, false≢true}
use Rattle.lts.specs.Meaning.{In}
use Rattle.tables.specs.Drawing.{byte, names_end, ended, Named}
use Rattle.tables.specs.Kinds.{Kind, head, end, step, remark, unknown}
use Rattle.tables.specs.Records.{Rec}
use Rattle.tables.specs.Theorems.{EndsAreNamed}

-- only an end record names a state, the one in its body
names_one : (s : ℕ) (k : Kind) (body : List ℕ) → names_end s k body ≡ true → (k ≡ end) × (byte body 0 ≡ s)
names_one s head body e = absurd (false≢true e)
names_one s end body e = (refl, sym (eqb-true s (byte body 0) e))
names_one s step body e = absurd (false≢true e)
names_one s remark body e = absurd (false≢true e)
names_one s (unknown k) body e = absurd (false≢true e)

named : (rs : List Rec) (s : ℕ) → ended s rs ≡ true → Named s rs
named [] s e = absurd (false≢true e)
named (r ∷ rs) s e = ⊎_elim here (λ h. later (named rs s h)) (or_cases (names_end s r.kind r.body) (ended s rs) e)
  where
    here : names_end s r.kind r.body ≡ true → Named s (r ∷ rs)
    here h = let k = names_one s r.kind r.body h in (r, inl refl, k.0, k.1)

    later : Named s rs → Named s (r ∷ rs)
    later h = (h.0, inr h.1, h.2, h.3)

naming : (s : ℕ) (x : Rec) → x.kind ≡ end → byte x.body 0 ≡ s → names_end s x.kind x.body ≡ true
naming s x k e = rw k (eq-eqb s (byte x.body 0) (sym e))

ends : (rs : List Rec) (s : ℕ) (x : Rec) → In x rs → x.kind ≡ end → byte x.body 0 ≡ s → ended s rs ≡ true
ends [] s x i k e = absurd i
ends (r ∷ rs) s x (inl p) k e =
    or_left (names_end s r.kind r.body) (ended s rs) (subst (λ (z : Rec). names_end s z.kind z.body ≡ true) p (naming s x k e))
ends (r ∷ rs) s x (inr i) k e = or_right (names_end s r.kind r.body) (ended s rs) (ends rs s x i k e)

pub ends_are_named : EndsAreNamed
ends_are_named rs s = (named rs s, λ h. ends rs s h.0 h.1 h.2 h.3)
