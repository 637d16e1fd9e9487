use Rattle.std.proofs.Common.{◌-◌, length}
use Rattle.tables.proofs.Progress.{Progress}
use Rattle.tables.proofs.table.Table.read.Given as goal

abbrev pub invariant-loop-record : goal.invariant-loop-record
invariant-loop-record l = Progress l.bytes l.records l.draft

abbrev pub decreases-loop-record : goal.decreases-loop-record
decreases-loop-record l = length l.bytes - l.records.next
