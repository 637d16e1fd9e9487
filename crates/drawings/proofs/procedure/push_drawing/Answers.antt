use Rattle.std.proofs.Common.{string_bytes}
use Rattle.drawings.specs.Texts.{row_text}
use Rattle.drawings.proofs.Counting.{texts_more}
use Rattle.drawings.proofs.procedure.push_drawing.Goals as goal

pub loop-s-preserved : goal.loop-s-preserved
loop-s-preserved g c =
    texts_more (row_text c.args.form (g.S.System.meaning c.args.source.now)) c.loop-s.s (string_bytes c.push_head.new.out) (string_bytes c.loop-s.out) (string_bytes c.push_row.new.out) c.loop-s.invariant c.in_ok-push_row.ensures
