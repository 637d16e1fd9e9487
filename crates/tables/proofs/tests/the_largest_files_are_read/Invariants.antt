use Rattle.std.proofs.Common.{◌≡◌, length}
use Rattle.tables.proofs.tests.the_largest_files_are_read.Given as goal

abbrev pub invariant-loop-i : goal.invariant-loop-i
invariant-loop-i g l = length l.file ≡ 16385
