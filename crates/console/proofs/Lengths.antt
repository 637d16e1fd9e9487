-- What is printed fits into 32 bytes.
use Rattle.std.proofs.Common.{◌≡◌, ℕ, ◌^◌, ◌<◌, ◌≤◌, List, [], ◌∷◌, ◌++◌, length, take, Some, None, codes, decimal, Option, Result, ◌∙◌, arith, length-append, take_all}
use Rattle.std.proofs.lemmas.Fmt.{length-decimal-le}
use Rattle.refusals.specs.Texts.{refusal_text, place_text}
use Rattle.refusals.specs.declared.Refusal.{Refusal}
use Rattle.terms.specs.Faults.{of_term}
use Rattle.terms.specs.declared.fault.TermFault.{TermFault}
use Rattle.terms.specs.declared.fault.TermFault.TheVariants.{Long, Misplaced, Early, Actions, Brackets}
use Rattle.shelves.specs.Faults.{number_of, of_shelf}
use Rattle.shelves.specs.declared.fault.ShelfFault.{ShelfFault}
use Rattle.shelves.specs.declared.fault.ShelfFault.TheVariants.{Slot, Taken, Empty, Pending, Steps, Room, Different as Differs, Nothing, Claims, Clearance}
use Rattle.commands.specs.Texts.{success_text, outcome_text, reply_text}
use Rattle.commands.specs.declared.fault.ConsoleFault.{ConsoleFault}
use Rattle.commands.specs.declared.outcome.Outcome.{Outcome}
use Rattle.commands.specs.declared.outcome.Outcome.TheVariants.{Same, Different}
use Rattle.commands.specs.declared.verb.Verb.{Verb}
use Rattle.console.proofs.Places.{Near}

three_digits : (n : ℕ) → n ≤ 999 → length (decimal n) ≤ 3
three_digits n l = length-decimal-le 3 n (omega arith) (omega arith) (omega arith)

five_digits : (n : ℕ) → n < 2 ^ 16 → length (decimal n) ≤ 5
five_digits n l = length-decimal-le 5 n (omega arith) (omega arith) (omega arith)

place_short : (p : Option ℕ) → Near 512 p → length (place_text p) ≤ 7
place_short None l = omega arith
place_short (Some p) l = let d = three_digits p (omega arith) in omega arith

pub refusal_short : (r : Refusal) → r.number ≤ 999 → Near 512 r.place → length (refusal_text r) ≤ 18
refusal_short r n p =
    let d = three_digits r.number n in
    let e = place_short r.place p in
    let s = length-append (decimal r.number) (place_text r.place) in
    omega arith

term_number : (f : TermFault) → (of_term f).number ≤ 999
term_number Long = omega arith
term_number (Misplaced at) = omega arith
term_number (Early at) = omega arith
term_number (Actions at) = omega arith
term_number (Brackets at) = omega arith

pub term_short : (f : TermFault) → Near 512 (of_term f).place → length (refusal_text (of_term f)) ≤ 18
term_short f p = refusal_short (of_term f) (term_number f) p

shelf_number : (f : ShelfFault) → number_of f ≤ 999
shelf_number Slot = omega arith
shelf_number Taken = omega arith
shelf_number Empty = omega arith
shelf_number Pending = omega arith
shelf_number Steps = omega arith
shelf_number Room = omega arith
shelf_number (Differs report) = omega arith
shelf_number Nothing = omega arith
shelf_number Claims = omega arith
shelf_number Clearance = omega arith

pub shelf_short : (f : ShelfFault) → length (refusal_text (of_shelf f)) ≤ 18
shelf_short f = refusal_short (of_shelf f) (shelf_number f) tt

pub same_short : (K r : ℕ) → K < 2 ^ 16 → r < 2 ^ 16 → length (success_text (Same K r)) ≤ 18
same_short K r k l =
    let d = five_digits K k in
    let e = five_digits r l in
    let s = length-append (decimal K) (codes " " ++ decimal r) in
    omega arith

pub different_short : (d : ℕ) → d < 2 ^ 16 → length (success_text (Different d)) ≤ 18
different_short d l = let e = five_digits d l in omega arith

-- the whole line of a command on a slot
pub reply_short : (v : Verb) (s : ℕ) (r : Result Outcome ConsoleFault) → s ≤ 999 → length (outcome_text r) ≤ 18 → length (reply_text v s r) ≤ 31
reply_short v s r l m =
    let d = three_digits s l in
    let e = length-append (decimal s) (codes " " ++ outcome_text r) in
    omega arith

-- what fits is not cut off
pub uncut : (text : List ℕ) {bytes : List ℕ} → length text ≤ 31 → bytes ≡ take 32 (text ++ 10 ∷ []) → bytes ≡ text ++ 10 ∷ []
uncut text l e = let s = length-append text (10 ∷ []) in e ∙ take_all 32 (text ++ 10 ∷ []) (omega arith)
