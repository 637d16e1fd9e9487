-- Lines that are not of the form, by the place where they leave it.
use Rattle.std.proofs.Common.{◌≡◌, ℕ, ◌+◌, ◌<◌, ◌≤◌, List, [], ◌∷◌, ◌++◌, map, length, get_or, take, Ok, Err, Result, sym, refl, ◌∙◌, subst, inl, inr, ⊎_elim, arith, length-append, MatchResult}
use Rattle.std.specs.List.{range_with_len}
use Rattle.std.proofs.lemmas.List.FromFn.{fill_by_all}
use Rattle.std.proofs.lemmas.List.{length-take-le, get_or-take, get_or_append_left}
use Rattle.terms.specs.Grammar.{Letter, small}
use Rattle.commands.specs.Form.{Request, file, submit, release, withdraw, rename, Digit, Form, files, submits, releases, withdraws, renames, Begins, Misfit}
use Rattle.commands.specs.Letters.{letter_of, Lettered, NoLetter, Texted, Alone, Slotted}
use Rattle.commands.specs.Reading.{Misfits, Stands, Found, SlotAt}
use Rattle.commands.specs.declared.fault.ConsoleFault.{ConsoleFault}
use Rattle.commands.specs.declared.verb.Verb.{Verb}
use Rattle.commands.specs.declared.verb.Verb.TheVariants.{File, Submit, Release, Withdraw, Rename}
use Rattle.commands.proofs.Forms.{form_length, form_letter, form_space, form_digit, form_text, form_alone, Actions, form_actions}

-- the first bytes, one by one
front : (line : List ℕ) (p : ℕ) → p ≤ length line → take p line ≡ map (λ k. get_or line k 0) (range_with_len 0 p)
front line p l = fill_by_all (λ k. get_or line k 0) (take p line) p 0 (length-take-le p line l) (λ k h. get_or-take p line k 0 h)

-- another line has the bytes of this one up to place p
pub record Shares (line : List ℕ) (p : ℕ) (other : List ℕ) : Type 0 where
  pub long : p < length other
  pub bytes : (k : ℕ) → k ≤ p → get_or other k 0 ≡ get_or line k 0

shared : (line : List ℕ) (p : ℕ) (tail : List ℕ) → p < length line → Shares line p (take (p + 1) line ++ tail)
shared line p tail l =
    let n = length-take-le (p + 1) line (omega arith) in
    let m = length-append (take (p + 1) line) tail in
    record { long = omega arith; bytes = λ k h. get_or_append_left (take (p + 1) line) tail 0 k (omega (arith, h)) ∙ get_or-take (p + 1) line k 0 (omega (arith, h)) }

-- a line that leaves the form at p: no line of the form shares its bytes up to there, and none ends there
left_at : (line : List ℕ) (p : ℕ) → p ≤ length line → Begins (take p line) → ((other : List ℕ) (r : Request) → p < length line → Form other r → Shares line p other → ⊥) → ((r : Request) → Form line r → length line ≡ p → ⊥) → Misfit line p
left_at line p inside fits clash early =
    record { inside = inside; fits = fits; stops = λ l b. clash (take (p + 1) line ++ b.0) b.1 l b.2 (shared line p b.0 l); early = λ e r f. early r f (sym e) }

at_letter : (line : List ℕ) → (0 < length line → NoLetter (get_or line 0 0)) → Misfit line 0
at_letter line none =
    left_at line 0 (omega arith) (70 ∷ 32 ∷ 48 ∷ 32 ∷ [], file 0 [], files (omega arith, refl))
    (λ other r l f s. (let v = form_letter f in none l v.0 (sym (s.bytes 0 (omega arith)) ∙ v.1)))
    (λ r f e. (let n = form_length f in omega (arith, e, n)))

pub letter_found : (line : List ℕ) (r : Result Verb ConsoleFault) → Found (Stands Lettered) line 0 r → MatchResult r (λ v. (0 < length line) × (get_or line 0 0 ≡ letter_of v)) (Misfits line)
letter_found line (Ok v) h = h
letter_found line (Err f) h = rw h.0 (at_letter line h.1, omega arith)

-- a letter, and a letter with a space, begin a line
letter_begins : (v : Verb) → Begins (letter_of v ∷ [])
letter_begins File = (32 ∷ 48 ∷ 32 ∷ [], file 0 [], files (omega arith, refl))
letter_begins Submit = (32 ∷ 48 ∷ 32 ∷ [], submit 0 [], submits (omega arith, refl))
letter_begins Release = (32 ∷ 48 ∷ [], release 0, releases (omega arith, refl))
letter_begins Withdraw = (32 ∷ 48 ∷ [], withdraw 0, withdraws (omega arith, refl))
letter_begins Rename = (32 ∷ 97 ∷ 97 ∷ [], rename 0 0, renames (small (omega arith) (omega arith)) (small (omega arith) (omega arith)))

space_begins : (v : Verb) → Begins (letter_of v ∷ 32 ∷ [])
space_begins File = (48 ∷ 32 ∷ [], file 0 [], files (omega arith, refl))
space_begins Submit = (48 ∷ 32 ∷ [], submit 0 [], submits (omega arith, refl))
space_begins Release = (48 ∷ [], release 0, releases (omega arith, refl))
space_begins Withdraw = (48 ∷ [], withdraw 0, withdraws (omega arith, refl))
space_begins Rename = (97 ∷ 97 ∷ [], rename 0 0, renames (small (omega arith) (omega arith)) (small (omega arith) (omega arith)))

-- a line with a letter is not empty
letter_held : (line : List ℕ) (v : Verb) → get_or line 0 0 ≡ letter_of v → 0 < length line
letter_held (b ∷ line) v e = omega arith
letter_held [] File e = absurd (omega (arith, e))
letter_held [] Submit e = absurd (omega (arith, e))
letter_held [] Release e = absurd (omega (arith, e))
letter_held [] Withdraw e = absurd (omega (arith, e))
letter_held [] Rename e = absurd (omega (arith, e))

module _ (line : List ℕ) (v : Verb) (letter : get_or line 0 0 ≡ letter_of v) where
  pub at_space : (1 < length line → get_or line 1 0 ≡ 32 → ⊥) → Misfit line 1
  at_space none =
      let long = letter_held line v letter in
      left_at line 1 (omega arith) (rw (front line 1 (omega arith), letter) (letter_begins v))
      (λ other r l f s. none l (sym (s.bytes 1 (omega arith)) ∙ form_space f))
      (λ r f e. (let n = form_length f in omega (arith, e, n)))

  pub two_begin : 1 < length line → get_or line 1 0 ≡ 32 → Begins (take 2 line)
  two_begin l e = rw (front line 2 (omega arith), letter, e) (space_begins v)

-- a slot's digit behind a letter begins a line
digit_begins : (l d s : ℕ) → Slotted l → Digit d s → Begins (l ∷ 32 ∷ d ∷ [])
digit_begins l d s letter digit = ⊎_elim texted alone letter
  where
    texted : Texted l → Begins (l ∷ 32 ∷ d ∷ [])
    texted = ⊎_elim (λ e. rw e (32 ∷ [], file s [], files digit)) (λ e. rw e (32 ∷ [], submit s [], submits digit))

    alone : Alone l → Begins (l ∷ 32 ∷ d ∷ [])
    alone = ⊎_elim (λ e. rw e ([], release s, releases digit)) (λ e. rw e ([], withdraw s, withdraws digit))

slotted_verb : (l : ℕ) → Slotted l → (v : Verb) × (l ≡ letter_of v)
slotted_verb l = ⊎_elim (⊎_elim (λ e. (File, e)) (λ e. (Submit, e))) (⊎_elim (λ e. (Release, e)) (λ e. (Withdraw, e)))

module _ (line : List ℕ) (letter : Slotted (get_or line 0 0)) where
  pub no_space : (1 < length line → get_or line 1 0 ≡ 32 → ⊥) → Misfit line 1
  no_space none = let v = slotted_verb (get_or line 0 0) letter in at_space line v.0 v.1 none

  pub no_digit : 1 < length line → get_or line 1 0 ≡ 32 → (2 < length line → (s : ℕ) → Digit (get_or line 2 0) s → ⊥) → Misfit line 2
  no_digit l e none =
      let v = slotted_verb (get_or line 0 0) letter in
      left_at line 2 (omega arith) (two_begin line v.0 v.1 l e)
      (λ other r h f s. (let d = form_digit f (subst Slotted (sym (s.bytes 0 (omega arith))) letter) in none h d.0 (subst (λ b. Digit b d.0) (s.bytes 2 (omega arith)) d.1)))
      (λ r f e. (let n = form_length f in omega (arith, e, n)))

  pub slot_found : (r : Result ℕ ConsoleFault) → 1 < length line → get_or line 1 0 ≡ 32 → Found (Stands Digit) line 2 r → MatchResult r (SlotAt line) (Misfits line)
  slot_found (Ok s) l e h = (h.0, e, h.1)
  slot_found (Err f) l e h = rw h.0 (no_digit l e h.1, omega arith)

  three_begin : (s : ℕ) → 2 < length line → get_or line 1 0 ≡ 32 → Digit (get_or line 2 0) s → Begins (take 3 line)
  three_begin s l e d = rw (front line 3 (omega arith), e) (digit_begins (get_or line 0 0) (get_or line 2 0) s letter d)

module _ (line : List ℕ) (s : ℕ) (long : 2 < length line) (space : get_or line 1 0 ≡ 32) (digit : Digit (get_or line 2 0) s) where
  pub no_text : Texted (get_or line 0 0) → (3 < length line → get_or line 3 0 ≡ 32 → ⊥) → Misfit line 3
  no_text letter none =
      left_at line 3 (omega arith) (three_begin line (inl letter) s long space digit)
      (λ other r h f t. none h (sym (t.bytes 3 (omega arith)) ∙ (form_text f (subst Texted (sym (t.bytes 0 (omega arith))) letter)).1))
      (λ r f e. (let n = (form_text f letter).0 in omega (arith, e, n)))

  pub past_slot : Alone (get_or line 0 0) → 3 < length line → Misfit line 3
  past_slot letter more =
      left_at line 3 (omega arith) (three_begin line (inr letter) s long space digit)
      (λ other r h f t. (let n = form_alone f (subst Alone (sym (t.bytes 0 (omega arith))) letter) in let m = t.long in omega (arith, n, m)))
      (λ r f e. omega (arith, e))

module _ (line : List ℕ) (letter : get_or line 0 0 ≡ letter_of Rename) where
  shared_actions : {p : ℕ} {other : List ℕ} {r : Request} → Form other r → Shares line p other → Actions other
  shared_actions f s = form_actions f (s.bytes 0 (omega arith) ∙ letter)

  pub no_from : 1 < length line → get_or line 1 0 ≡ 32 → (2 < length line → (a : ℕ) → Letter (get_or line 2 0) a → ⊥) → Misfit line 2
  no_from l e none =
      left_at line 2 (omega arith) (two_begin line Rename letter l e)
      (λ other r h f s. (let x = (shared_actions f s).from in none h x.0 (subst (λ b. Letter b x.0) (s.bytes 2 (omega arith)) x.1)))
      (λ r f e. (let n = form_length f in omega (arith, e, n)))

  module _ (a : ℕ) (long : 2 < length line) (space : get_or line 1 0 ≡ 32) (from : Letter (get_or line 2 0) a) where
    pub no_to : (3 < length line → (b : ℕ) → Letter (get_or line 3 0) b → ⊥) → Misfit line 3
    no_to none =
        left_at line 3 (omega arith) (rw (front line 3 (omega arith), letter, space) (97 ∷ [], rename a 0, renames from (small {c = 97} (omega arith) (omega arith))))
        (λ other r h f s. (let x = (shared_actions f s).to in none h x.0 (subst (λ b. Letter b x.0) (s.bytes 3 (omega arith)) x.1)))
        (λ r f e. (let n = (form_actions f letter).ends in omega (arith, e, n)))

    pub past_actions : (b : ℕ) → 4 < length line → Letter (get_or line 3 0) b → Misfit line 4
    past_actions b more to =
        left_at line 4 (omega arith) (rw (front line 4 (omega arith), letter, space) ([], rename a b, renames from to))
        (λ other r h f s. (let n = (shared_actions f s).ends in let m = s.long in omega (arith, n, m)))
        (λ r f e. omega (arith, e))
