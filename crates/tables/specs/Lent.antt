-- A record whose body is lent from the file.
use Rattle.std.specs.Prelude.{ℕ, List}
use Rattle.tables.specs.Kinds.{Kind, head, end, step, remark, unknown}
use Rattle.tables.specs.Records.{Rec}
use Rattle.tables.specs.declared.record.Record.{Record}
use Rattle.tables.specs.declared.record.Record.TheVariants.{Head, End, Step, Remark, Unknown}

abbrev pub kind_of : Record → Kind
kind_of (Head b) = head
kind_of (End b) = end
kind_of (Step b) = step
kind_of (Remark b) = remark
kind_of (Unknown k b) = unknown k

abbrev pub body_of : Record → List ℕ
body_of (Head b) = b.now
body_of (End b) = b.now
body_of (Step b) = b.now
body_of (Remark b) = b.now
body_of (Unknown k b) = b.now

-- the record that was read at an offset
abbrev pub rec_of : ℕ → Record → Rec
rec_of at r = record { place = at; kind = kind_of r; body = body_of r }
