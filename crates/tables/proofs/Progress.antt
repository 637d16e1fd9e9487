-- Reading a table file: what holds after each record, and at the end.
use Rattle.std.proofs.Common.{◌≡◌, ℕ, ◌<◌, ◌≤◌, false, ◌&&◌, ltb, List, [], ◌∷◌, ◌++◌, length, get_or, IfOk, Some, None, Ok, Err, Option, Result, sym, ap, ◌∙◌, subst, ⊎_elim, append_assoc, append-nil, arith}
use Rattle.std.proofs.lemmas.Bool.{lt-ltb, le-ltb, cases_lt}
use Rattle.lts.specs.Layout.{Procedure, stored}
use Rattle.lts.specs.Laws.Same.{same_meaning}
use Rattle.tables.specs.Records.{Rec, whole, damaged, entry_at, behind, entries, wholes, records_of}
use Rattle.tables.specs.Drawing.{table_meaning, ended, out_of}
use Rattle.tables.specs.Rows.{fault, or_else, refused, first_refusal}
use Rattle.tables.specs.Drafts.{Draws, Begun, Taken, drafted}
use Rattle.tables.specs.Laid.{Laid}
use Rattle.tables.specs.Lent.{rec_of}
use Rattle.tables.specs.Reading.{Opened, Passed, Answered}
use Rattle.tables.specs.Tables.{meaning_of, refusal_of}
use Rattle.tables.specs.declared.draft.Draft.{Draft}
use Rattle.tables.specs.declared.fault.TableFault.{TableFault}
use Rattle.tables.specs.declared.fault.TableFault.TheVariants.{Record}
use Rattle.tables.specs.declared.fault.RecordFault.{RecordFault}
use Rattle.tables.specs.declared.record.Record.{Record as Lent}
use Rattle.tables.specs.declared.records.Records.{Records}
use Rattle.tables.specs.declared.table.Table.{Table}
use Rattle.tables.proofs.Placing.{accepted_whole, whole_laid}
use Rattle.tables.proofs.Entries.{left, left_all, left_more, left_none}

-- the records before an offset
pub record Before (file : List ℕ) (at : ℕ) (rs : List Rec) : Type 0 where
  pub refusal : refused rs (left file at) ≡ refused [] (entries file)
  pub records : rs ++ wholes (left file at) ≡ records_of file

module _ (file : List ℕ) where
  pub before_all : Before file 0 []
  before_all = record { refusal = ap (refused []) (left_all file); records = ap wholes (left_all file) }

  module _ (at : ℕ) (rs : List Rec) (p : Before file at rs) where
    at_end : length file ≤ at → (refused rs [] ≡ refused [] (entries file)) × (rs ≡ records_of file)
    at_end l =
        let e = left_none file at l in
        (subst (λ es. refused rs es ≡ refused [] (entries file)) e p.refusal, sym (append-nil rs) ∙ subst (λ es. rs ++ wholes es ≡ records_of file) e p.records)

    module _ (l : at < length file) where
      split : refused rs (entry_at file at ∷ left file (behind file at)) ≡ refused [] (entries file)
      split = subst (λ es. refused rs es ≡ refused [] (entries file)) (left_more file at l) p.refusal

      -- what stands there is no whole record
      pub before_damaged : (f : RecordFault) → entry_at file at ≡ damaged f → refused [] (entries file) ≡ Some (Record f)
      before_damaged f e = sym (subst (λ x. refused rs (x ∷ left file (behind file at)) ≡ refused [] (entries file)) e split)

      module _ (x : Rec) (e : entry_at file at ≡ whole x) where
        with_record : or_else (fault rs x) (refused (rs ++ x ∷ []) (left file (behind file at))) ≡ refused [] (entries file)
        with_record = subst (λ z. refused rs (z ∷ left file (behind file at)) ≡ refused [] (entries file)) e split

        -- the record there is refused
        pub before_refused : (f : TableFault) → fault rs x ≡ Some f → refused [] (entries file) ≡ Some f
        before_refused f k = sym (subst (λ o. or_else o (refused (rs ++ x ∷ []) (left file (behind file at))) ≡ refused [] (entries file)) k with_record)

        -- the record there is accepted
        pub before_more : fault rs x ≡ None → Before file (behind file at) (rs ++ x ∷ [])
        before_more k = record { refusal = subst (λ o. or_else o (refused (rs ++ x ∷ []) (left file (behind file at))) ≡ refused [] (entries file)) k with_record; records = append_assoc rs (x ∷ []) (wholes (left file (behind file at))) ∙ subst (λ z. rs ++ wholes (z ∷ left file (behind file at)) ≡ records_of file) e (subst (λ es. rs ++ wholes es ≡ records_of file) (left_more file at l) p.records) }

pub before_open : (file : List ℕ) (r : Records) → Opened file r → Before file r.next []
before_open file r o = subst (λ n. Before file n []) (sym o.next_is) (before_all file)

-- what the reader of records answers, behind the records rs
module _ (file : List ℕ) (r r' : Records) (rs : List Rec) (same : r.bytes.now ≡ file) (p : Before file r.next rs) where
  pub next_damaged : (f : RecordFault) → Answered r (Err f) r' → refused [] (entries file) ≡ Some (Record f)
  next_damaged f h = before_damaged file r.next rs p (rw same at h.0) f (rw same at h.1)

  module _ (x : Lent) (at : ℕ) (h : Passed r x r') (here : at ≡ r'.offset) where
    entry_here : entry_at file r.next ≡ whole (rec_of at x)
    entry_here = subst (λ n. entry_at file r.next ≡ whole (rec_of n x)) (sym (here ∙ h.offset_is)) (rw same at h.entry_is)

    pub next_refused : (f : TableFault) → fault rs (rec_of at x) ≡ Some f → refused [] (entries file) ≡ Some f
    next_refused f e = before_refused file r.next rs p (rw same at h.inside) (rec_of at x) entry_here f e

    pub next_more : fault rs (rec_of at x) ≡ None → Before file r'.next (rs ++ rec_of at x ∷ [])
    next_more e =
        let n : behind file r.next ≡ r'.next = sym (rw same at h.next_is) in
        subst (λ z. Before file z (rs ++ rec_of at x ∷ [])) n (before_more file r.next rs p (rw same at h.inside) (rec_of at x) entry_here e)

-- after the head and more records
pub record Progress (file : List ℕ) (r : Records) (d : Draft) : Type 0 where
  pub same : r.bytes.now ≡ file
  pub first : Rec
  pub more : List Rec
  pub draws : Draws first more d
  pub before : Before file r.next (first ∷ more)

pub progress_start : {file : List ℕ} {r r' : Records} {x : Lent} (at : ℕ) (d : Draft) → Opened file r → Passed r x r' → at ≡ r'.offset → Begun (rec_of at x) (Ok d) → Progress file r' d
progress_start {file} {r} {r'} {x} at d o h here b =
    record { same = h.file_is ∙ o.file_is; first = rec_of at x; more = []; draws = b.1; before = next_more file r r' [] o.file_is (before_open file r o) x at h here b.0 }

pub progress_more : {file : List ℕ} {r r' : Records} {x : Lent} {d : Draft} (at : ℕ) (d' : Draft) → Progress file r d → Passed r x r' → at ≡ r'.offset → Taken (rec_of at x) (Ok tt) d d' → Progress file r' d'
progress_more {file} {r} {r'} {x} at d' p h here t =
    let k = t p.first p.more p.draws in
    record { same = h.file_is ∙ p.same; first = p.first; more = p.more ++ rec_of at x ∷ []; draws = k.1; before = next_more file r r' (p.first ∷ p.more) p.same p.before x at h here k.0 }

pub progress_refused : {file : List ℕ} {r r' : Records} {x : Lent} {d : Draft} (at : ℕ) (d' : Draft) (f : TableFault) → Progress file r d → Passed r x r' → at ≡ r'.offset → Taken (rec_of at x) (Err f) d d' → refused [] (entries file) ≡ Some f
progress_refused {file} {r} {r'} {x} at d' f p h here t =
    next_refused file r r' (p.first ∷ p.more) p.same p.before x at h here f (t p.first p.more p.draws)

-- a draft means what its records draw
pub draft_means : (h : Rec) (rs : List Rec) (d : Draft) → Draws h rs d → drafted d ≡ table_meaning (h ∷ rs)
draft_means h rs d w = same_meaning (drafted d) (table_meaning (h ∷ rs)) w.states same_ends (λ s. ap (out_of s) w.steps)
  where
    same_ends : (s : ℕ) → (ltb s d.states && get_or d.ends s false) ≡ ended s (h ∷ rs)
    same_ends s = ⊎_elim (λ l. rw (lt-ltb s d.states l) (w.ends s l)) (λ l. rw (le-ltb s d.states l) (sym (w.no_ends s l))) (cases_lt s d.states)

-- what reading a file promises of its answer
abbrev pub Promised : List ℕ → Result Table TableFault → Type 0
Promised file r = record { refuses : refusal_of r ≡ first_refusal file; laid : IfOk r (λ t. Laid 0 (records_of file) file); draws : IfOk r (λ t. meaning_of t ≡ table_meaning (records_of file)) }

short_refusal : (file : List ℕ) (o : Option TableFault) → length file ≤ 16384 → refused [] (entries file) ≡ o → o ≡ first_refusal file
short_refusal file o l e = rw (le-ltb 16384 (length file) l) (sym e)

pub refused_promised : (file : List ℕ) (f : TableFault) → length file ≤ 16384 → refused [] (entries file) ≡ Some f → Promised file (Err f)
refused_promised file f l e = record { refuses = short_refusal file (Some f) l e; laid = tt; draws = tt }

-- every record was accepted
pub accepted_promised : {file : List ℕ} {r : Records} {d : Draft} (p : Procedure) → Progress file r d → length file ≤ 16384 → length r.bytes.now ≡ r.next → stored p ≡ drafted d → record { refuses : ◌≡◌ {A = Option TableFault} None (first_refusal file); laid : Laid 0 (records_of file) file; draws : stored p ≡ table_meaning (records_of file) }
accepted_promised {file} {r} {d} p g short all e =
    let h = g.first in
    let rs = g.more in
    let n : length file ≡ r.next = rw g.same at all in
    let end = at_end file r.next (h ∷ rs) g.before (omega arith) in
    record { refuses = short_refusal file None short (sym end.0); laid = whole_laid file (accepted_whole [] (entries file) end.0); draws = e ∙ (draft_means h rs d g.draws ∙ ap table_meaning end.1) }
