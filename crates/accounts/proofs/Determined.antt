-- The account and the call alone determine the account after it.
use Rattle.std.proofs.Common.{◌≡◌, ℕ, ◌+◌, [], ◌∷◌, Some, sym, refl, ap, ◌∙◌, subst, arith}
use Rattle.accounts.specs.Account.{Alike, Filled, Account, with_slot, with_pending, with_claim, released, withdrawn, one_made}
use Rattle.accounts.specs.Calls.{Call, Answer, refusal, Does, refuses, files, agrees, differs, claims, releases, withdraws, start, more}
use Rattle.accounts.specs.Law.{calls_of, Determined}

-- two constructors are never equal
pub never : {X : Type 0} → ◌≡◌ {A = ℕ} 0 1 → X
never e = let b : ⊥ = omega arith in absurd b

-- a refused call changes nothing
stays : {a : Account} {c : Call} {r : Answer} {a' : Account} {n : ℕ} → refusal a c ≡ Some n → Does a c r a' → a ≡ a'
stays e (refuses f) = refl
stays e (files f) = never (cc)
stays e (agrees f g h) = never (cc)
stays e (differs f g h i) = never (cc)
stays e (claims f g) = never (cc)
stays e (releases f g h) = never (cc)
stays e (withdraws f g) = never (cc)

-- two answers to one call leave the same account
pub does_same : {a : Account} {c : Call} {r r' : Answer} {a' a'' : Account} → Does a c r a' → Does a c r' a'' → a' ≡ a''
does_same (refuses e) d = stays e d
does_same (files e) (refuses f) = never (cc)
does_same (files e) (files f) = refl
does_same (agrees e f g) (refuses e') = never (cc)
does_same (agrees {a} {s} {m = m} {x = x} e f g) (agrees {x = x'} e' f' g') = let q : x ≡ x' = cc in ap (λ z. with_slot a s (with_pending z m)) q
does_same (agrees {m = m} {x = x} e f g) (differs {x = x'} e' f' g' h') = let q : x ≡ x' = cc in absurd (g' (subst (λ z. Alike z.force m) q g))
does_same (differs e f g h) (refuses e') = refl
does_same (differs {m = m} {x = x} e f g h) (agrees {x = x'} e' f' g') = let q : x' ≡ x = cc in absurd (g (subst (λ z. Alike z.force m) q g'))
does_same (differs e f g h) (differs e' f' g' h') = refl
does_same (claims e f) (refuses e') = never (cc)
does_same (claims {a} {s} {x} e f) (claims {x = x'} e' f') = let q : x ≡ x' = cc in ap (λ z. with_slot (one_made a) s (with_claim z (a.made + 1))) q
does_same (releases e f g) (refuses e') = never (cc)
does_same (releases {a} {s = s} {x = x} {m = m} e f g) (releases {x = x'} {m = m'} e' f' g') =
    let q : x ≡ x' = cc in
    let p : Some m ≡ Some m' = sym g ∙ (ap (λ (z : Filled). z.pending) q ∙ g') in
    let o : m ≡ m' = cc in
    λ i. with_slot a s (released (q i) (o i))
does_same (withdraws e f) (refuses e') = never (cc)
does_same (withdraws {a} {s = s} {x = x} e f) (withdraws {x = x'} e' f') = let q : x ≡ x' = cc in ap (λ z. with_slot a s (withdrawn z)) q

pub determined : Determined
determined n [] [] a a' start start e = refl
determined n [] (x ∷ es') a a' r r' e = never (cc)
determined n (x ∷ es) [] a a' r r' e = never (cc)
determined n (x ∷ es) (y ∷ es') a a' (more {a = b} r l d) (more {a = b'} r' l' d') e =
    let rest : calls_of es ≡ calls_of es' = cc in
    let same : b ≡ b' = determined n es es' b b' r r' rest in
    let call : x.call ≡ y.call = cc in
    does_same (subst (λ z. Does z y.call x.answer a) same (subst (λ c. Does b c x.answer a) call d)) d'
