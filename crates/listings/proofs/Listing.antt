-- The states of a class, listed one by one.
use Rattle.std.proofs.Common.{◌≡◌, ℕ, ◌+◌, Bool, true, false, cond, eqb, List, [], ◌∷◌, ◌++◌, map, get_or, codes, filter, sym, refl, ap, ◌∙◌, append_assoc, append-nil}
use Rattle.std.specs.List.{range_with_len}
use Rattle.std.proofs.lemmas.List.Elements.{filter-append}
use Rattle.std.proofs.lemmas.Bool.{eq-eqb, ne_eqb}
use Rattle.listings.specs.Texts.{state_text, members, listed}
use Rattle.drawings.proofs.Counting.{counting_more}

-- nothing is in the list
abbrev pub none_of : List ℕ → Bool
none_of [] = true
none_of (x ∷ xs) = false

none_of_push : (xs : List ℕ) (x : ℕ) → none_of (xs ++ x ∷ []) ≡ false
none_of_push [] x = refl
none_of_push (y ∷ xs) x = refl

module _ (name : ℕ → List ℕ) (x : ℕ) where
  listed_later : (xs : List ℕ) → listed false (map name (xs ++ x ∷ [])) ≡ listed false (map name xs) ++ (codes ", " ++ name x)
  listed_later [] = ap (λ zs. codes ", " ++ zs) (append-nil (name x))
  listed_later (y ∷ xs) =
      let h = listed_later xs in
      let parts = append_assoc (name y) (listed false (map name xs)) (codes ", " ++ name x) in
      ap (λ zs. codes ", " ++ (name y ++ zs)) h ∙ ap (λ zs. codes ", " ++ zs) (sym parts)

  listed_push : (xs : List ℕ) → listed true (map name (xs ++ x ∷ [])) ≡ listed true (map name xs) ++ (cond (none_of xs) (codes ": ") (codes ", ") ++ name x)
  listed_push [] = ap (λ zs. codes ": " ++ zs) (append-nil (name x))
  listed_push (y ∷ xs) =
      let h = listed_later xs in
      let parts = append_assoc (name y) (listed false (map name xs)) (codes ", " ++ name x) in
      ap (λ zs. codes ": " ++ (name y ++ zs)) h ∙ ap (λ zs. codes ": " ++ zs) (sym parts)

-- the states below s are looked through
abbrev pub Telling : ℕ → List ℕ → ℕ → ℕ → List ℕ → List ℕ → Bool → Type 0
Telling n classes c s first out fresh = (out ≡ first ++ listed true (map (state_text n) (members classes c s))) × (fresh ≡ none_of (members classes c s))

module _ (n : ℕ) (classes : List ℕ) (c s : ℕ) (first out : List ℕ) (fresh : Bool) (h : Telling n classes c s first out fresh) where
  members_more : members classes c (s + 1) ≡ members classes c s ++ cond (eqb (get_or classes s 0) c) (s ∷ []) []
  members_more = ap (filter (λ x. eqb (get_or classes x 0) c)) (counting_more s) ∙ filter-append (λ x. eqb (get_or classes x 0) c) (range_with_len 0 s) (s ∷ [])

  pub not_listed : (out' : List ℕ) (fresh' : Bool) → (get_or classes s 0 ≡ c → ⊥) → out' ≡ out → fresh' ≡ fresh → Telling n classes c (s + 1) first out' fresh'
  not_listed out' fresh' ne o f =
      let e : members classes c (s + 1) ≡ members classes c s = members_more ∙ rw (ne_eqb (get_or classes s 0) c ne) (append-nil (members classes c s)) in
      (o ∙ h.0 ∙ ap (λ xs. first ++ listed true (map (state_text n) xs)) (sym e), f ∙ h.1 ∙ ap none_of (sym e))

  pub also_listed : (mark out₁ out₂ : List ℕ) (fresh' : Bool) → get_or classes s 0 ≡ c → mark ≡ cond fresh (codes ": ") (codes ", ") → out₁ ≡ out ++ mark → out₂ ≡ out₁ ++ state_text n s → fresh' ≡ false → Telling n classes c (s + 1) first out₂ fresh'
  also_listed mark out₁ out₂ fresh' here m o₁ o₂ f =
      let e : members classes c (s + 1) ≡ members classes c s ++ s ∷ [] = members_more ∙ rw (eq-eqb (get_or classes s 0) c here) in
      let before = listed true (map (state_text n) (members classes c s)) in
      let sep : List ℕ = cond (none_of (members classes c s)) (codes ": ") (codes ", ") in
      let m' : mark ≡ sep = m ∙ ap (λ b. cond b (codes ": ") (codes ", ")) h.1 in
      let whole : out₂ ≡ ((first ++ before) ++ sep) ++ state_text n s = o₂ ∙ ap (λ xs. xs ++ state_text n s) (o₁ ∙ (λ j. h.0 j ++ m' j)) in
      let parts : ((first ++ before) ++ sep) ++ state_text n s ≡ first ++ (before ++ (sep ++ state_text n s)) = simp append_assoc in
      let pushed = listed_push (state_text n) s (members classes c s) in (
        whole ∙ (parts ∙ (ap (λ zs. first ++ zs) (sym pushed) ∙ ap (λ xs. first ++ listed true (map (state_text n) xs)) (sym e))),
        f ∙ sym (ap none_of e ∙ none_of_push (members classes c s) s),
      )
