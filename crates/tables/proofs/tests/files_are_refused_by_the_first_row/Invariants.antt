use Rattle.std.proofs.Common.{length}
use Rattle.tables.proofs.tests.files_are_refused_by_the_first_row.Given as goal

abbrev pub decreases-loop-left : goal.decreases-loop-left
decreases-loop-left g l = length l.left
