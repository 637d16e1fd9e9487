-- A table keeps the bounds of every source.
use Rattle.lts.specs.Laws.Stored.{sound_lawful}
use Rattle.lts.specs.Meaning.{Lawful}
use Rattle.tables.specs.Tables.{meaning_of}
use Rattle.tables.specs.declared.table.Table.{Table}

pub table_lawful : (x : Table) → Lawful 128 (meaning_of x)
table_lawful x = sound_lawful x.procedure x.sound
