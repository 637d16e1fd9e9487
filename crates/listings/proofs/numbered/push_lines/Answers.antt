use Rattle.std.proofs.Common.{string_bytes}
use Rattle.listings.specs.Texts.{numbered_text}
use Rattle.drawings.proofs.Counting.{texts_more}
use Rattle.listings.proofs.numbered.push_lines.Goals as goal

pub loop-k-preserved : goal.loop-k-preserved
loop-k-preserved c =
    texts_more (numbered_text c.args.lines.now) c.loop-k.k-counter (string_bytes c.args.out.now) (string_bytes c.loop-k.out) (string_bytes c.write.new.self) c.loop-k.invariant c.in_ok-write.ensures.bytes
