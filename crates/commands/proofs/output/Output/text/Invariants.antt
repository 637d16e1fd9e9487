use Rattle.std.proofs.Common.{◌≡◌, ◌++◌, take}
use Rattle.commands.specs.Outputs.{written}
use Rattle.commands.proofs.output.Output.text.Given as goal

abbrev pub invariant-loop-byte : goal.invariant-loop-byte
invariant-loop-byte l = written l.self ≡ take 32 (written l.initial.self ++ take l.byte-index l.text)
