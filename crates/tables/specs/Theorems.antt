-- What stands above the reading of a file, in the file's own terms.
use Rattle.std.specs.Prelude.{◌≡◌, ℕ, ◌<◌, ◌≤◌, true, ◌↔◌, List, [], ◌∷◌, length, None}
use Rattle.lts.specs.Meaning.{In}
use Rattle.tables.specs.Drawing.{byte, Named, steps_of, table_meaning}
use Rattle.tables.specs.Kinds.{Kind, head, end, step, remark, unknown}
use Rattle.tables.specs.Laid.{Laid}
use Rattle.tables.specs.Records.{Rec, records_of}
use Rattle.tables.specs.Rows.{first_refusal}

-- a file is laid out by one list of records at most
abbrev pub LaidOnce : Type 0
LaidOnce = (file : List ℕ) (rs : List Rec) → Laid 0 rs file → records_of file ≡ rs

-- a state is an end exactly when some end record names it
abbrev pub EndsAreNamed : Type 0
EndsAreNamed = (rs : List Rec) (s : ℕ) → ((table_meaning rs).ends s ≡ true) ↔ Named s rs

-- a head that tells n states
pub record Heads (r : Rec) : Type 0 where
  pub kind : r.kind ≡ head
  pub size : length r.body ≡ 1
  pub some : 1 ≤ byte r.body 0
  pub few : byte r.body 0 ≤ 128

-- a record that may stand behind a head of n states
abbrev pub Fits : ℕ → Kind → List ℕ → Type 0
Fits n head body = ⊥
Fits n end body = (length body ≡ 1) × (byte body 0 < n)
Fits n step body = (length body ≡ 3) × (byte body 0 < n) × (byte body 1 ≤ 63) × (byte body 2 < n)
Fits n remark body = Unit {0}
Fits n (unknown k) body = ⊥

-- records that draw a table: a head, then others that fit it, at most 512 of them steps
abbrev pub Draw : List Rec → Type 0
Draw [] = ⊥
Draw (h ∷ rs) = Heads h × ((r : Rec) → In r rs → Fits (byte h.body 0) r.kind r.body) × (length (steps_of rs) ≤ 512)

-- the files that are accepted: of at most 16,384 bytes, laid out by records that draw a table
abbrev pub AcceptedFiles : Type 0
AcceptedFiles = (file : List ℕ) → (first_refusal file ≡ None) ↔ ((length file ≤ 16384) × ((rs : List Rec) × Laid 0 rs file × Draw rs))
