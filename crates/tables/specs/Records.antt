-- The records of a file: a length that counts the body only, a kind, and the body.
use Rattle.std.specs.Prelude.{ℕ, zero, suc, ◌+◌, ◌*◌, cond, List, [], ◌∷◌, length, take, drop, nat_le, nat_lt, slice_index}
use Rattle.tables.specs.Kinds.{Kind, sort}
use Rattle.tables.specs.declared.fault.RecordFault.{RecordFault}
use Rattle.tables.specs.declared.fault.RecordFault.TheVariants.{Short, Cut}

-- a record, with the offset of its length
pub record Rec : Type 0 where
  pub place : ℕ
  pub kind : Kind
  pub body : List ℕ

-- what stands in a file: a whole record, or bytes that are none
pub data Entry : Type 0 where
  whole : Rec → Entry
  damaged : RecordFault → Entry

module _ (file : List ℕ) where
  -- two bytes, the lower first
  abbrev pub word : ℕ → ℕ
  word i = slice_index file i + slice_index file (i + 1) * 256

  -- the offset behind the record at an offset
  abbrev pub behind : ℕ → ℕ
  behind at = at + 4 + word at

  -- what stands at an offset inside the file
  abbrev pub entry_at : ℕ → Entry
  entry_at at =
      cond (nat_lt (length file) (at + 4)) (damaged (Short at)) (cond (nat_lt (length file) (behind at)) (damaged (Cut at)) (whole (record { place = at; kind = sort (word (at + 2)); body = take (word at) (drop (at + 4) file) })))

  -- the entries from an offset on, at most n of them
  abbrev pub entries_from : ℕ → ℕ → List Entry
  entries_from zero at = []
  entries_from (suc n) at = cond (nat_le (length file) at) [] (entry_at at ∷ entries_from n (behind at))

  -- all entries, from the front: there are no more than bytes
  abbrev pub entries : List Entry
  entries = entries_from (length file) 0

-- the records among the entries
abbrev pub wholes : List Entry → List Rec
wholes [] = []
wholes (whole r ∷ es) = r ∷ wholes es
wholes (damaged f ∷ es) = wholes es

-- the records of a file
abbrev pub records_of : List ℕ → List Rec
records_of file = wholes (entries file)
