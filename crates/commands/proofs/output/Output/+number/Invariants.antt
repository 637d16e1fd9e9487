use Rattle.commands.proofs.output.Output.+number.Given as goal

abbrev pub decreases-number : goal.decreases-number
decreases-number l = l.number
