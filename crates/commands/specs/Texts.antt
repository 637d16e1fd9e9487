-- The lines that are answered, without their line feed.
use Rattle.std.specs.Prelude.{ℕ, List, ◌∷◌, ◌++◌, Ok, Err, codes, decimal, Result}
use Rattle.refusals.specs.Texts.{refusal_text}
use Rattle.commands.specs.Faults.{of_console}
use Rattle.commands.specs.Letters.{letter_of}
use Rattle.commands.specs.declared.fault.ConsoleFault.{ConsoleFault}
use Rattle.commands.specs.declared.outcome.Outcome.{Outcome}
use Rattle.commands.specs.declared.outcome.Outcome.TheVariants.{Accepted, Same, Different}
use Rattle.commands.specs.declared.verb.Verb.{Verb}

-- `ok`, `same K r` or `different d`
abbrev pub success_text : Outcome → List ℕ
success_text Accepted = codes "ok"
success_text (Same classes rounds) = codes "same " ++ (decimal classes ++ (codes " " ++ decimal rounds))
success_text (Different depth) = codes "different " ++ decimal depth

abbrev pub outcome_text : Result Outcome ConsoleFault → List ℕ
outcome_text (Ok outcome) = success_text outcome
outcome_text (Err fault) = refusal_text (of_console fault)

-- the letter, the slot and what came out, a space between each
abbrev pub line_text : Verb → ℕ → List ℕ → List ℕ
line_text verb slot rest = letter_of verb ∷ (codes " " ++ (decimal slot ++ (codes " " ++ rest)))

abbrev pub reply_text : Verb → ℕ → Result Outcome ConsoleFault → List ℕ
reply_text verb slot outcome = line_text verb slot (outcome_text outcome)
