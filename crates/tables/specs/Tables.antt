-- What reading a table file answers.
use Rattle.std.specs.Prelude.{Some, None, Ok, Err, Option, Result}
use Rattle.lts.specs.Layout.{stored}
use Rattle.lts.specs.Meaning.{Meaning}
use Rattle.tables.specs.declared.fault.TableFault.{TableFault}
use Rattle.tables.specs.declared.table.Table.{Table}

-- the procedure that a table stands for
abbrev pub meaning_of : Table → Meaning
meaning_of t = stored t.procedure

-- the refusal that was answered, if any
abbrev pub refusal_of : Result Table TableFault → Option TableFault
refusal_of (Ok t) = None
refusal_of (Err f) = Some f
