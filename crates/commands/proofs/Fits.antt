-- Lines that are of the form, from what stands at their first places.
use Rattle.std.proofs.Common.{◌≡◌, ℕ, ◌<◌, List, [], ◌∷◌, length, get_or, drop, Ok, Err, Result, sym, refl, subst, arith, MatchResult}
use Rattle.commands.specs.Form.{file, submit, release, withdraw, rename, Form, files, submits, releases, withdraws, renames}
use Rattle.commands.specs.Reading.{asked, Misfits, Read, SlotAt, TextAt, ActionsAt}
use Rattle.commands.specs.declared.command.Command.{Command}
use Rattle.commands.specs.declared.fault.ConsoleFault.{ConsoleFault}

-- the first bytes of a line, and the rest
unrolled : (line : List ℕ) → 3 < length line → line ≡ get_or line 0 0 ∷ get_or line 1 0 ∷ get_or line 2 0 ∷ get_or line 3 0 ∷ drop 4 line
unrolled [] l = absurd (omega (arith, l))
unrolled (a ∷ []) l = absurd (omega (arith, l))
unrolled (a ∷ b ∷ []) l = absurd (omega (arith, l))
unrolled (a ∷ b ∷ c ∷ []) l = absurd (omega (arith, l))
unrolled (a ∷ b ∷ c ∷ d ∷ line) l = refl

-- a line of three bytes
three : (line : List ℕ) → length line ≡ 3 → line ≡ get_or line 0 0 ∷ get_or line 1 0 ∷ get_or line 2 0 ∷ []
three [] l = absurd (omega (arith, l))
three (a ∷ []) l = absurd (omega (arith, l))
three (a ∷ b ∷ []) l = absurd (omega (arith, l))
three (a ∷ b ∷ c ∷ []) l = refl
three (a ∷ b ∷ c ∷ d ∷ line) l = absurd (omega (arith, l))

-- and of four
four : (line : List ℕ) → length line ≡ 4 → line ≡ get_or line 0 0 ∷ get_or line 1 0 ∷ get_or line 2 0 ∷ get_or line 3 0 ∷ []
four [] l = absurd (omega (arith, l))
four (a ∷ []) l = absurd (omega (arith, l))
four (a ∷ b ∷ []) l = absurd (omega (arith, l))
four (a ∷ b ∷ c ∷ []) l = absurd (omega (arith, l))
four (a ∷ b ∷ c ∷ d ∷ []) l = refl
four (a ∷ b ∷ c ∷ d ∷ e ∷ line) l = absurd (omega (arith, l))

module _ (line text : List ℕ) (s l : ℕ) (letter : get_or line 0 0 ≡ l) (slot : SlotAt line s) (at : TextAt line text) where
  texted : line ≡ l ∷ 32 ∷ get_or line 2 0 ∷ 32 ∷ text
  texted = let u = unrolled line at.0 in let e = slot.1 in let f = at.1 in let g = at.2 in cc

pub file_fits : (line text : List ℕ) (s : ℕ) → get_or line 0 0 ≡ 70 → SlotAt line s → TextAt line text → Form line (file s text)
file_fits line text s l slot at = subst (λ z. Form z (file s text)) (sym (texted line text s 70 l slot at)) (files slot.2)

pub submit_fits : (line text : List ℕ) (s : ℕ) → get_or line 0 0 ≡ 83 → SlotAt line s → TextAt line text → Form line (submit s text)
submit_fits line text s l slot at = subst (λ z. Form z (submit s text)) (sym (texted line text s 83 l slot at)) (submits slot.2)

module _ (line : List ℕ) (s l : ℕ) (letter : get_or line 0 0 ≡ l) (slot : SlotAt line s) (ends : length line ≡ 3) where
  alone : line ≡ l ∷ 32 ∷ get_or line 2 0 ∷ []
  alone = let u = three line ends in let e = slot.1 in cc

pub release_fits : (line : List ℕ) (s : ℕ) → get_or line 0 0 ≡ 82 → SlotAt line s → length line ≡ 3 → Form line (release s)
release_fits line s l slot ends = subst (λ z. Form z (release s)) (sym (alone line s 82 l slot ends)) (releases slot.2)

pub withdraw_fits : (line : List ℕ) (s : ℕ) → get_or line 0 0 ≡ 87 → SlotAt line s → length line ≡ 3 → Form line (withdraw s)
withdraw_fits line s l slot ends = subst (λ z. Form z (withdraw s)) (sym (alone line s 87 l slot ends)) (withdraws slot.2)

pub rename_fits : (line : List ℕ) (a b : ℕ) → get_or line 0 0 ≡ 77 → ActionsAt line a b → Form line (rename a b)
rename_fits line a b l at =
    let u = four line at.0 in
    let e = at.1 in
    let q : line ≡ 77 ∷ 32 ∷ get_or line 2 0 ∷ get_or line 3 0 ∷ [] = cc in
    subst (λ z. Form z (rename a b)) (sym q) (renames at.2 at.3)

-- a command made of what stands behind its letter
pub made : {X : Type 0} (line : List ℕ) (r : Result X ConsoleFault) (out : Result Command ConsoleFault) (P : X → Type 0) (make : X → Command) → ((x : X) → P x → Form line (asked (make x))) → MatchResult r P (Misfits line) → MatchResult r (λ x. out ≡ Ok (make x)) (λ f. out ≡ Err f) → Read line out
made line (Ok x) out P make fits h e = rw e (fits x h)
made line (Err f) out P make fits h e = rw e h
