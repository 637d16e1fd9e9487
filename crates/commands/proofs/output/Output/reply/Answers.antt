use Rattle.std.proofs.Common.{[], ◌∷◌, ◌++◌, take, decimal, sym, ap, ◌∙◌, append_assoc}
use Rattle.commands.specs.Letters.{letter_of}
use Rattle.commands.specs.Outputs.{written}
use Rattle.commands.specs.Texts.{outcome_text}
use Rattle.commands.proofs.Writing.{adds_then, holds}
use Rattle.commands.proofs.output.Output.reply.Goals as goal

pub returns : goal.returns
returns c =
    let letter = letter_of c.args.verb in
    let slot = decimal c.args.slot in
    let told = outcome_text c.args.outcome.now in
    let x = written c.new-out.result in
    let ended = adds_then (written c.push-3.new.self) told (10 ∷ []) c.outcome.ensures c.push-4.ensures in
    let spaced = adds_then (written c.number.new.self) (32 ∷ []) (told ++ 10 ∷ []) c.push-3.ensures ended in
    let numbered = adds_then (written c.push-2.new.self) slot (32 ∷ (told ++ 10 ∷ [])) c.number.ensures spaced in
    let behind = adds_then (written c.push.new.self) (32 ∷ []) (slot ++ 32 ∷ (told ++ 10 ∷ [])) c.push-2.ensures numbered in
    let first = c.push.ensures ∙ ap (λ l. take 32 (x ++ l ∷ [])) c.into.ensures in
    holds x (letter ∷ 32 ∷ (slot ++ 32 ∷ (told ++ 10 ∷ []))) c.new-out.ensures (adds_then x (letter ∷ []) (32 ∷ (slot ++ 32 ∷ (told ++ 10 ∷ []))) first behind) ∙ ap (λ z. take 32 (letter ∷ 32 ∷ z)) (sym (append_assoc slot (32 ∷ told) (10 ∷ [])))
