use Rattle.std.proofs.Common.{drop, string_bytes}
use Rattle.drawings.proofs.Rows.{Stepped}
use Rattle.drawings.proofs.procedure.push_steps.Given as goal

abbrev pub invariant-loop-k : goal.invariant-loop-k
invariant-loop-k g l =
    let it = l.k-iterator.iter in
    Stepped l.form l.s l.end ((g.S.System.meaning l.source).steps l.s) l.k-iterator.count (drop it.next ((g.S.System.meaning it.source.now).steps it.state)) (string_bytes l.initial.out) (string_bytes l.out)
