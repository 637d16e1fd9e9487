use Rattle.std.proofs.Common.{◌≡◌, ◌*◌, ◌++◌, take, drop}
use Rattle.embed.specs.Numbers.{numbers_of}
use Rattle.embed.proofs.numbers.write_lines.Given as goal

abbrev pub invariant-loop-k : goal.invariant-loop-k
invariant-loop-k l = l.places ≡ numbers_of (take l.k l.lines) ++ drop (3 * l.k) l.initial.places
