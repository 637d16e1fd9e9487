-- The letters of the commands.
use Rattle.std.specs.Prelude.{◌≡◌, ℕ, ◌⊎◌, ◌≢◌, Result, MatchResult}
use Rattle.commands.specs.declared.verb.UnknownLetter.{UnknownLetter}
use Rattle.commands.specs.declared.verb.Verb.{Verb}
use Rattle.commands.specs.declared.verb.Verb.TheVariants.{File, Submit, Release, Withdraw, Rename}

-- F, S, R, W and M
abbrev pub letter_of : Verb → ℕ
letter_of File = 70
letter_of Submit = 83
letter_of Release = 82
letter_of Withdraw = 87
letter_of Rename = 77

abbrev pub Lettered : ℕ → Verb → Type 0
Lettered c v = c ≡ letter_of v

abbrev pub NoLetter : ℕ → Type 0
NoLetter c = (v : Verb) → c ≢ letter_of v

-- the verb of this letter, or an error with a byte that is no letter
abbrev pub Decodes : ℕ → Result Verb UnknownLetter → Type 0
Decodes c r = MatchResult r (λ v. c ≡ letter_of v) (λ e. (e.0 ≡ c) × NoLetter c)

-- a slot and a text stand behind F and S,
abbrev pub Texted : ℕ → Type 0
Texted c = (c ≡ letter_of File) ⊎ (c ≡ letter_of Submit)

-- a slot alone behind R and W
abbrev pub Alone : ℕ → Type 0
Alone c = (c ≡ letter_of Release) ⊎ (c ≡ letter_of Withdraw)

abbrev pub Slotted : ℕ → Type 0
Slotted c = Texted c ⊎ Alone c
