-- A line can be read in one way at most.
use Rattle.std.proofs.Common.{◌≡◌, ℕ, ◌+◌, ◌-◌, ◌<◌, ◌≤◌, cond, eqb, leb, List, ◌++◌, length, get_or, take, drop, sym, ap, ◌∙◌, subst, ⊎_elim, append_assoc, arith, take-append-drop, take-take}
use Rattle.std.proofs.lemmas.Bool.{cases_lt, le-leb, lt-leb}
use Rattle.terms.specs.Grammar.{Letter, small, capital, digit}
use Rattle.commands.specs.Form.{Request, file, submit, release, withdraw, rename, Digit, Form, files, submits, releases, withdraws, renames, Begins, Misfit}
use Rattle.commands.specs.Readings.{OneRequest, OneMisfit, NeverBoth}

-- the action of a character
action_of : ℕ → ℕ
action_of c = cond (leb 97 c) (c - 97) (cond (leb 65 c) (c - 65 + 26) (c - 48 + 52))

letter_action : {c a : ℕ} → Letter c a → a ≡ action_of c
unfolding action_of
letter_action {c} (small l h) = rw (le-leb 97 c l)
letter_action {c} (capital l h) = rw (lt-leb 97 c (omega arith), le-leb 65 c l)
letter_action {c} (digit l h) = rw (lt-leb 97 c (omega arith), lt-leb 65 c (omega arith))

-- what a line of the form asks for, by its bytes
reading : List ℕ → Request
reading line = cond (eqb (get_or line 0 0) 70) (file (get_or line 2 0 - 48) (drop 4 line)) (cond (eqb (get_or line 0 0) 83) (submit (get_or line 2 0 - 48) (drop 4 line)) (cond (eqb (get_or line 0 0) 82) (release (get_or line 2 0 - 48)) (cond (eqb (get_or line 0 0) 87) (withdraw (get_or line 2 0 - 48)) (rename (action_of (get_or line 2 0)) (action_of (get_or line 3 0))))))

digit_number : {c s : ℕ} → Digit c s → s ≡ c - 48
digit_number d = omega arith

reads : {line : List ℕ} {r : Request} → Form line r → r ≡ reading line
unfolding reading
reads (files {text = text} d) = ap (λ s. file s text) (digit_number d)
reads (submits {text = text} d) = ap (λ s. submit s text) (digit_number d)
reads (releases d) = ap release (digit_number d)
reads (withdraws d) = ap withdraw (digit_number d)
reads (renames {x = x} {b = b} from to) = ap (λ a. rename a b) (letter_action from) ∙ ap (λ c. rename (action_of x) c) (letter_action to)

pub one_request : OneRequest
one_request line r r' f g = reads f ∙ sym (reads g)

-- what begins a line, its own beginning begins
shorter : (line : List ℕ) (p q : ℕ) → p ≤ q → Begins (take q line) → Begins (take p line)
shorter line p q l b =
    let e : take q line ≡ take p line ++ drop p (take q line) = sym (take-append-drop p (take q line)) ∙ ap (λ z. z ++ drop p (take q line)) (take-take p q line l) in
    (drop p (take q line) ++ b.0, b.1, subst (λ z. Form z b.1) (ap (λ z. z ++ b.0) e ∙ append_assoc (take p line) (drop p (take q line)) b.0) b.2)

below : (line : List ℕ) (p q : ℕ) → Misfit line p → Misfit line q → p < q → ⊥
below line p q m n l = let i = n.inside in m.stops (omega arith) (shorter line (p + 1) q (omega arith) n.fits)

pub one_misfit : OneMisfit
one_misfit line p q m n =
    let l : q ≤ p = ⊎_elim (λ h. absurd (below line p q m n h)) (λ h. h) (cases_lt p q) in
    let k : p ≤ q = ⊎_elim (λ h. absurd (below line q p n m h)) (λ h. h) (cases_lt q p) in
    omega arith

pub never_both : NeverBoth
never_both line r p f m =
    let i = m.inside in
    let whole = subst (λ z. Form z r) (sym (take-append-drop (p + 1) line)) f in
    ⊎_elim (λ l. m.stops l (drop (p + 1) line, r, whole)) (λ l. m.early (omega (arith, l)) r f) (cases_lt p (length line))
