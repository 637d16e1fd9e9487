use Rattle.std.proofs.Common.{[], ◌∷◌, ◌++◌, take, ap, ◌∙◌}
use Rattle.refusals.specs.Texts.{refusal_text}
use Rattle.commands.specs.Faults.{of_console}
use Rattle.commands.specs.Outputs.{written}
use Rattle.commands.proofs.Writing.{adds_then, holds}
use Rattle.commands.proofs.output.Output.refused.Goals as goal

pub returns : goal.returns
returns c =
    let x = written c.new-out.result in
    let told = refusal_text (of_console c.args.fault.now) in
    holds x (told ++ 10 ∷ []) c.new-out.ensures (adds_then x told (10 ∷ []) (c.refusal-2.ensures ∙ ap (λ r. take 32 (x ++ refusal_text r)) c.refusal.ensures) c.push.ensures)
