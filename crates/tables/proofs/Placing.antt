-- The entries of a file are its records exactly where these lie in it one after another.
use Rattle.std.proofs.Common.{◌≡◌, ℕ, zero, suc, ◌+◌, ◌-◌, ◌*◌, ◌<◌, ◌≤◌, List, [], ◌∷◌, ◌++◌, map, length, get_or, take, drop, Some, None, Option, sym, refl, ap, ◌∙◌, subst, ⊎_elim, add-zero, add_assoc, arith}
use Rattle.std.proofs.lemmas.List.{drop_more, drop_all, drop-drop, drop_at, take_at, take-append-drop, length-take-le, length-drop, length-append, get_or-drop}
use Rattle.std.proofs.lemmas.Bool.{le-leb, lt-leb, le-ltb, lt-ltb, cases_lt}
use Rattle.tables.specs.Kinds.{sort}
use Rattle.tables.specs.Laid.{Laid, finish, follow}
use Rattle.tables.specs.Records.{Rec, Entry, whole, damaged, word, behind, entry_at, entries_from, entries, wholes, records_of}
use Rattle.tables.specs.Rows.{fault, or_else, refused}
use Rattle.tables.specs.Theorems.{LaidOnce}
use Rattle.tables.specs.declared.fault.TableFault.{TableFault}

-- no entry is damaged
abbrev pub Whole : List Entry → Type 0
Whole [] = Unit {0}
Whole (whole r ∷ es) = Whole es
Whole (damaged f ∷ es) = ⊥

-- what is not refused is whole
pub accepted_whole : (rs : List Rec) (es : List Entry) → None ≡ refused rs es → Whole es
accepted_whole rs [] e = tt
accepted_whole rs (damaged f ∷ es) e = let z : ◌≡◌ {A = ℕ} 0 1 = cc in omega arith
accepted_whole rs (whole r ∷ es) e = go (fault rs r) (accepted_whole (rs ++ r ∷ []) es) e
  where
    go : (o : Option TableFault) → (None ≡ refused (rs ++ r ∷ []) es → Whole es) → None ≡ or_else o (refused (rs ++ r ∷ []) es) → Whole es
    go None more h = more h
    go (Some f) more h = let z : ◌≡◌ {A = ℕ} 0 1 = cc in let b : ⊥ = omega arith in absurd b

module _ (file : List ℕ) where
  -- the four bytes before a body
  four : (at : ℕ) → at + 4 ≤ length file → drop at file ≡ get_or file at 0 ∷ get_or file (at + 1) 0 ∷ get_or file (at + 2) 0 ∷ get_or file (at + 2 + 1) 0 ∷ drop (at + 4) file
  four at l =
      let b = subst (λ n. drop (at + 1) file ≡ get_or file (at + 1) 0 ∷ drop n file) (add_assoc at 1 1) (drop_more file (at + 1) 0 (omega arith)) in
      let d = subst (λ n. drop (at + 2 + 1) file ≡ get_or file (at + 2 + 1) 0 ∷ drop n file) (add_assoc (at + 2) 1 1 ∙ add_assoc at 2 2) (drop_more file (at + 2 + 1) 0 (omega arith)) in
      drop_more file at 0 (omega arith) ∙ ap (λ zs. get_or file at 0 ∷ zs) (b ∙ ap (λ zs. get_or file (at + 1) 0 ∷ zs) (drop_more file (at + 2) 0 (omega arith) ∙ ap (λ zs. get_or file (at + 2) 0 ∷ zs) d))

  body_at : ℕ → List ℕ
  body_at at = take (word file at) (drop (at + 4) file)

  cut_at : (at : ℕ) → body_at at ++ drop (behind file at) file ≡ drop (at + 4) file
  unfolding body_at
  cut_at at = ap (λ zs. body_at at ++ zs) (sym (drop-drop (word file at) (at + 4) file)) ∙ take-append-drop (word file at) (drop (at + 4) file)

  laid_more : (at : ℕ) (rs : List Rec) → at + 4 ≤ length file → behind file at ≤ length file → Laid (behind file at) rs (drop (behind file at) file) → Laid at (record { place = at; kind = sort (word file (at + 2)); body = take (word file at) (drop (at + 4) file) } ∷ rs) (drop at file)
  unfolding body_at
  laid_more at rs l m d =
      let n = length-drop (at + 4) file in
      let e : length (body_at at) ≡ word file at = length-take-le (word file at) (drop (at + 4) file) (omega arith) in
      let d' = subst (λ z. Laid (at + 4 + z) rs (drop (behind file at) file)) (sym e) d in
      let f = four at l ∙ ap (λ zs. get_or file at 0 ∷ get_or file (at + 1) 0 ∷ get_or file (at + 2) 0 ∷ get_or file (at + 2 + 1) 0 ∷ zs) (sym (cut_at at)) in
      subst (λ zs. Laid at (record { place = at; kind = sort (word file (at + 2)); body = take (word file at) (drop (at + 4) file) } ∷ rs) zs) (sym f) (follow e d')

  laid_none : (at : ℕ) → length file ≤ at → Laid at [] (drop at file)
  laid_none at l = subst (Laid at []) (sym (drop_all at file l)) finish

  laid_from : (n at : ℕ) → length file ≤ at + n → Whole (entries_from file n at) → Laid at (wholes (entries_from file n at)) (drop at file)
  laid_from zero at l w = laid_none at (omega arith)
  laid_from (suc n) at l w = ⊎_elim (inside (laid_from n (behind file at) (omega arith))) outside (cases_lt at (length file))
    where
      outside : length file ≤ at → Laid at (wholes (entries_from file (suc n) at)) (drop at file)
      outside p = rw (le-leb (length file) at p) (laid_none at p)

      inside : (Whole (entries_from file n (behind file at)) → Laid (behind file at) (wholes (entries_from file n (behind file at))) (drop (behind file at) file)) → at < length file → Laid at (wholes (entries_from file (suc n) at)) (drop at file)
      inside more p =
          let w' : Whole (entry_at file at ∷ entries_from file n (behind file at)) = rw (lt-leb (length file) at p) at w in
          rw (lt-leb (length file) at p) (⊎_elim (short w') (long w') (cases_lt (length file) (at + 4)))
        where
          Goal : Type 0
          Goal = Laid at (wholes (entry_at file at ∷ entries_from file n (behind file at))) (drop at file)

          short : Whole (entry_at file at ∷ entries_from file n (behind file at)) → length file < at + 4 → Goal
          short v q = let b : ⊥ = rw (lt-ltb (length file) (at + 4) q) at v in absurd b

          cut : Whole (entry_at file at ∷ entries_from file n (behind file at)) → at + 4 ≤ length file → length file < behind file at → Goal
          cut v q o = let b : ⊥ = rw (le-ltb (length file) (at + 4) q, lt-ltb (length file) (behind file at) o) at v in absurd b

          full : Whole (entry_at file at ∷ entries_from file n (behind file at)) → at + 4 ≤ length file → behind file at ≤ length file → Goal
          full v q o =
              let v' : Whole (entries_from file n (behind file at)) = rw (le-ltb (length file) (at + 4) q, le-ltb (length file) (behind file at) o) at v in
              rw (le-ltb (length file) (at + 4) q, le-ltb (length file) (behind file at) o) (laid_more at (wholes (entries_from file n (behind file at))) q o (more v'))

          long : Whole (entry_at file at ∷ entries_from file n (behind file at)) → at + 4 ≤ length file → Goal
          long v q = ⊎_elim (cut v q) (full v q) (cases_lt (length file) (behind file at))

  pub whole_laid : Whole (entries file) → Laid 0 (records_of file) file
  whole_laid w = laid_from (length file) 0 (omega arith) w

  -- what a record that lies there tells of the file
  module _ (at l h k m : ℕ) (body rest : List ℕ) (size : length body ≡ l + h * 256) (e : drop at file ≡ l ∷ h ∷ k ∷ m ∷ (body ++ rest)) where
    behind_four : drop (at + 4) file ≡ body ++ rest
    behind_four = sym (drop-drop 4 at file) ∙ ap (drop 4) e

    byte_at : (i : ℕ) → get_or file (at + i) 0 ≡ get_or (l ∷ h ∷ k ∷ m ∷ (body ++ rest)) i 0
    byte_at i = sym (get_or-drop at file i 0) ∙ ap (λ zs. get_or zs i 0) e

    word_is : word file at ≡ length body
    word_is =
        let a = subst (λ n. get_or file n 0 ≡ l) (add-zero at) (byte_at 0) in
        let b = byte_at 1 in
        omega arith

    kind_is : word file (at + 2) ≡ k + m * 256
    kind_is =
        let a = byte_at 2 in
        let b = subst (λ n. get_or file n 0 ≡ m) (sym (add_assoc at 2 1)) (byte_at 3) in
        omega arith

    length_is : length file - at ≡ 4 + (length body + length rest)
    length_is =
        let a = length-drop at file in
        let b = ap length e in
        let c = length-append body rest in
        omega arith

    rest_is : drop (behind file at) file ≡ rest
    rest_is = sym (drop-drop (word file at) (at + 4) file) ∙ (ap (drop (word file at)) behind_four ∙ drop_at body rest (word file at) (sym word_is))

    entry_is : entry_at file at ≡ whole (record { place = at; kind = sort (k + m * 256); body = body })
    entry_is =
        let n = length_is in
        let w = word_is in
        let b : take (word file at) (drop (at + 4) file) ≡ body = ap (take (word file at)) behind_four ∙ take_at body rest (word file at) (sym word_is) in
        rw (le-ltb (length file) (at + 4) (omega arith), le-ltb (length file) (behind file at) (omega arith)) (λ i. whole (record { place = at; kind = sort (kind_is i); body = b i }))

  once : {at : ℕ} {rs : List Rec} {zs : List ℕ} → Laid at rs zs → (n : ℕ) → drop at file ≡ zs → length file ≤ at + n → entries_from file n at ≡ map whole rs
  once finish zero e l = refl
  once {at = at} finish (suc n) e l =
      let a = length-drop at file in
      let b = ap length e in
      rw (le-leb (length file) at (omega arith))
  once {at = at} (follow {l = p} {h = q} {k = k} {m = m} {body = body} {rest = rest} size d) zero e l =
      let c = length_is at p q k m body rest size e in
      let b : ⊥ = omega arith in
      absurd b
  once {at = at} (follow {l = p} {h = q} {k = k} {m = m} {body = body} {rest = rest} {rs = rs} size d) (suc n) e l =
      let c = length_is at p q k m body rest size e in
      let w = word_is at p q k m body rest size e in
      let r : drop (at + 4 + length body) file ≡ rest = subst (λ z. drop (at + 4 + z) file ≡ rest) w (rest_is at p q k m body rest size e) in
      let more : entries_from file n (at + 4 + length body) ≡ map whole rs = once d n r (omega arith) in
      let more' : entries_from file n (behind file at) ≡ map whole rs = subst (λ z. entries_from file n (at + 4 + z) ≡ map whole rs) (sym w) more in
      rw (lt-leb (length file) at (omega arith)) (λ i. entry_is at p q k m body rest size e i ∷ more' i)

-- the entries of a file are the records that lie in it
pub laid_entries : (file : List ℕ) (rs : List Rec) → Laid 0 rs file → entries file ≡ map whole rs
laid_entries file rs d = once file d (length file) refl (omega arith)

all_whole : (rs : List Rec) → wholes (map whole rs) ≡ rs
all_whole [] = refl
all_whole (r ∷ rs) = ap (λ zs. r ∷ zs) (all_whole rs)

pub laid_once : LaidOnce
laid_once file rs d = ap wholes (laid_entries file rs d) ∙ all_whole rs
