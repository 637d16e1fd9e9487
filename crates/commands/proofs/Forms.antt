-- What a line of the form has at its first places.
use Rattle.std.proofs.Common.{◌≡◌, ℕ, ◌≤◌, List, length, get_or, refl, ⊎_elim, arith}
use Rattle.terms.specs.Grammar.{Letter}
use Rattle.commands.specs.Form.{Request, Digit, Form, files, submits, releases, withdraws, renames}
use Rattle.commands.specs.Letters.{letter_of, Texted, Alone, Slotted}
use Rattle.commands.specs.declared.verb.Verb.{Verb}
use Rattle.commands.specs.declared.verb.Verb.TheVariants.{File, Submit, Release, Withdraw, Rename}

pub form_length : {line : List ℕ} {r : Request} → Form line r → 3 ≤ length line
form_length (files d) = omega arith
form_length (submits d) = omega arith
form_length (releases d) = omega arith
form_length (withdraws d) = omega arith
form_length (renames x y) = omega arith

pub form_letter : {line : List ℕ} {r : Request} → Form line r → (v : Verb) × (get_or line 0 0 ≡ letter_of v)
form_letter (files d) = (File, refl)
form_letter (submits d) = (Submit, refl)
form_letter (releases d) = (Release, refl)
form_letter (withdraws d) = (Withdraw, refl)
form_letter (renames x y) = (Rename, refl)

pub form_space : {line : List ℕ} {r : Request} → Form line r → get_or line 1 0 ≡ 32
form_space (files d) = refl
form_space (submits d) = refl
form_space (releases d) = refl
form_space (withdraws d) = refl
form_space (renames x y) = refl

pub form_digit : {line : List ℕ} {r : Request} → Form line r → Slotted (get_or line 0 0) → (s : ℕ) × Digit (get_or line 2 0) s
form_digit (files {s = s} d) l = (s, d)
form_digit (submits {s = s} d) l = (s, d)
form_digit (releases {s = s} d) l = (s, d)
form_digit (withdraws {s = s} d) l = (s, d)
form_digit (renames x y) l = absurd (⊎_elim (⊎_elim (λ e. omega (arith, e)) (λ e. omega (arith, e))) (⊎_elim (λ e. omega (arith, e)) (λ e. omega (arith, e))) l)

pub form_text : {line : List ℕ} {r : Request} → Form line r → Texted (get_or line 0 0) → (4 ≤ length line) × (get_or line 3 0 ≡ 32)
form_text (files d) l = (omega arith, refl)
form_text (submits d) l = (omega arith, refl)
form_text (releases d) l = absurd (⊎_elim (λ e. omega (arith, e)) (λ e. omega (arith, e)) l)
form_text (withdraws d) l = absurd (⊎_elim (λ e. omega (arith, e)) (λ e. omega (arith, e)) l)
form_text (renames x y) l = absurd (⊎_elim (λ e. omega (arith, e)) (λ e. omega (arith, e)) l)

pub form_alone : {line : List ℕ} {r : Request} → Form line r → Alone (get_or line 0 0) → length line ≡ 3
form_alone (files d) l = absurd (⊎_elim (λ e. omega (arith, e)) (λ e. omega (arith, e)) l)
form_alone (submits d) l = absurd (⊎_elim (λ e. omega (arith, e)) (λ e. omega (arith, e)) l)
form_alone (releases d) l = refl
form_alone (withdraws d) l = refl
form_alone (renames x y) l = absurd (⊎_elim (λ e. omega (arith, e)) (λ e. omega (arith, e)) l)

-- the two actions of a line that begins with M
pub record Actions (line : List ℕ) : Type 0 where
  pub ends : length line ≡ 4
  pub from : (a : ℕ) × Letter (get_or line 2 0) a
  pub to : (a : ℕ) × Letter (get_or line 3 0) a

pub form_actions : {line : List ℕ} {r : Request} → Form line r → get_or line 0 0 ≡ letter_of Rename → Actions line
form_actions (files d) l = absurd (omega (arith, l))
form_actions (submits d) l = absurd (omega (arith, l))
form_actions (releases d) l = absurd (omega (arith, l))
form_actions (withdraws d) l = absurd (omega (arith, l))
form_actions (renames {a = a} {b = b} x y) l = record { ends = refl; from = (a, x); to = (b, y) }
