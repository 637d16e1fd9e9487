-- What reading a file record by record answers.
use Rattle.std.specs.Prelude.{◌≡◌, ℕ, ◌<◌, List, length, Some, None, Ok, Err, Option, Result}
use Rattle.tables.specs.Records.{whole, damaged, entry_at, behind}
use Rattle.tables.specs.Lent.{rec_of}
use Rattle.tables.specs.declared.fault.RecordFault.{RecordFault}
use Rattle.tables.specs.declared.record.Record.{Record}
use Rattle.tables.specs.declared.records.Records.{Records}

-- before the first record of a file
pub record Opened (file : List ℕ) (r : Records) : Type 0 where
  pub file_is : r.bytes.now ≡ file
  pub offset_is : r.offset ≡ 0
  pub next_is : r.next ≡ 0

-- the reader stays as it was
pub record Stays (r r' : Records) : Type 0 where
  pub file_is : r'.bytes.now ≡ r.bytes.now
  pub offset_is : r'.offset ≡ r.offset
  pub next_is : r'.next ≡ r.next

-- the record x was read, and the reader stands behind it
pub record Passed (r : Records) (x : Record) (r' : Records) : Type 0 where
  pub inside : r.next < length r.bytes.now
  pub entry_is : entry_at r.bytes.now r.next ≡ whole (rec_of r.next x)
  pub file_is : r'.bytes.now ≡ r.bytes.now
  pub offset_is : r'.offset ≡ r.next
  pub next_is : r'.next ≡ behind r.bytes.now r.next

-- the next record, the end of the file, or a fault
abbrev pub Answered : Records → Result (Option Record) RecordFault → Records → Type 0
Answered r (Ok (Some x)) r' = Passed r x r'
Answered r (Ok None) r' = (length r.bytes.now ≡ r.next) × Stays r r'
Answered r (Err f) r' = (r.next < length r.bytes.now) × (entry_at r.bytes.now r.next ≡ damaged f) × Stays r r'
