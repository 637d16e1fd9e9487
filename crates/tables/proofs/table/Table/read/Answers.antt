use Rattle.std.proofs.Common.{◌≤◌, length, Ok, subst, arith}
use Rattle.std.proofs.lemmas.Result.{err_from_is_err_and}
use Rattle.tables.specs.Reading.{Answered}
use Rattle.tables.specs.declared.fault.TableFault.TheVariants.{Record}
use Rattle.tables.proofs.Progress.{before_open, next_damaged, next_refused, progress_start, progress_more, progress_refused, refused_promised, accepted_promised}
use Rattle.tables.proofs.table.Table.read.Goals as goal

pub returns-in_err-first : goal.returns-in_err-first
returns-in_err-first c =
    let short : length c.args.bytes.now ≤ 16384 = omega arith in
    let file = c.args.bytes.now in
    let r = c.new-records.result in
    let o = c.new-records.ensures in
    let f = c.in_err-first.field-0.0 in
    let e = err_from_is_err_and c.from_residual.result c.from_residual.ensures.1 in
    rw (e.1, e.2) (refused_promised file (Record f) short (next_damaged file r c.next.new.self _ o.file_is (before_open file r o) f c.in_err-first.ensures))

pub returns-in_err-draft : goal.returns-in_err-draft
returns-in_err-draft c =
    let short : length c.args.bytes.now ≤ 16384 = omega arith in
    let file = c.args.bytes.now in
    let r = c.new-records.result in
    let o = c.new-records.ensures in
    let h = subst (λ x. Answered r (Ok x) c.next.new.self) c.in-Some.is c.in_ok-first.ensures in
    let f = c.in_err-draft.field-0.0 in
    let e = err_from_is_err_and c.from_residual-in_err-draft.result c.from_residual-in_err-draft.ensures.1 in
    rw (e.1, e.2) (refused_promised file f short (next_refused file r c.next.new.self _ o.file_is (before_open file r o) c.in-Some.first c.offset.result h c.offset.ensures f c.in_err-draft.ensures))

pub loop-record-init : goal.loop-record-init
loop-record-init c =
    let r = c.new-records.result in
    let h = subst (λ x. Answered r (Ok x) c.next.new.self) c.in-Some.is c.in_ok-first.ensures in
    progress_start c.offset.result c.in_ok-draft.draft c.new-records.ensures h c.offset.ensures c.in_ok-draft.ensures

pub returns-in_err-record : goal.returns-in_err-record
returns-in_err-record c =
    let short : length c.args.bytes.now ≤ 16384 = omega arith in
    let file = c.args.bytes.now in
    let p = c.loop-record.invariant in
    let f = c.in_err-record.field-0.0 in
    let e = err_from_is_err_and c.from_residual-in_err-record.result c.from_residual-in_err-record.ensures.1 in
    rw (e.1, e.2) (refused_promised file (Record f) short (next_damaged file c.loop-record.records c.next-in-loop-record.new.self _ p.same p.before f c.in_err-record.ensures))

pub loop-record-preserved : goal.loop-record-preserved
loop-record-preserved c =
    let r = c.loop-record.records in
    let h = subst (λ x. Answered r (Ok x) c.next-in-loop-record.new.self) c.in-Some-2.is c.in_ok-record.ensures in
    progress_more c.offset-in-Some-2.result c.add.new.self c.loop-record.invariant h c.offset-in-Some-2.ensures c.in_ok-add.ensures

pub returns-in_err-add : goal.returns-in_err-add
returns-in_err-add c =
    let short : length c.args.bytes.now ≤ 16384 = omega arith in
    let file = c.args.bytes.now in
    let r = c.loop-record.records in
    let h = subst (λ x. Answered r (Ok x) c.next-in-loop-record.new.self) c.in-Some-2.is c.in_ok-record.ensures in
    let f = c.in_err-add.field-0.0 in
    let e = err_from_is_err_and c.from_residual-in_err-add.result c.from_residual-in_err-add.ensures.1 in
    rw (e.1, e.2) (refused_promised file f short (progress_refused c.offset-in-Some-2.result c.add.new.self f c.loop-record.invariant h c.offset-in-Some-2.ensures c.in_err-add.ensures))

pub returns : goal.returns
returns c =
    let short : length c.args.bytes.now ≤ 16384 = omega arith in
    let r = c.loop-record.records in
    let h = subst (λ x. Answered r (Ok x) c.next-in-loop-record.new.self) c.in_default-2.is c.in_ok-record.ensures in
    accepted_promised c.grouped.result c.loop-record.invariant short h.0 c.grouped.ensures.1
