-- What each refusal of a table file tells.
use Rattle.std.specs.Prelude.{Some}
use Rattle.refusals.specs.declared.Refusal.{Refusal}
use Rattle.refusals.specs.declared.Layer.{Layer}
use Rattle.tables.specs.declared.fault.RecordFault.{RecordFault}
use Rattle.tables.specs.declared.fault.RecordFault.TheVariants.{Short, Cut}
use Rattle.tables.specs.declared.fault.TableFault.{TableFault}
use Rattle.tables.specs.declared.fault.TableFault.TheVariants.{Long, Record, Head, Form, Range, Steps}

abbrev pub of_record : RecordFault → Refusal
of_record (Short at) = record { number = 1; layer = Layer.Record; place = Some at }
of_record (Cut at) = record { number = 2; layer = Layer.Record; place = Some at }

-- a record's fault is carried whole
abbrev pub of_table : TableFault → Refusal
of_table Long = record { number = 7; layer = Layer.Table; place = Some 0 }
of_table (Record f) = of_record f
of_table (Head at) = record { number = 3; layer = Layer.Table; place = Some at }
of_table (Form at) = record { number = 4; layer = Layer.Table; place = Some at }
of_table (Range at) = record { number = 5; layer = Layer.Table; place = Some at }
of_table (Steps at) = record { number = 6; layer = Layer.Table; place = Some at }
