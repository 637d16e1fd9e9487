use Rattle.std.proofs.Common.{string_bytes}
use Rattle.listings.specs.Texts.{class_text}
use Rattle.drawings.proofs.Counting.{texts_more}
use Rattle.listings.proofs.classes.push_classes.Goals as goal

pub loop-c-preserved : goal.loop-c-preserved
loop-c-preserved c =
    texts_more (class_text c.args.n c.args.classes.now) c.loop-c.c (string_bytes c.args.out.now) (string_bytes c.loop-c.out) (string_bytes c.push_class.new.out) c.loop-c.invariant c.in_ok-push_class.ensures
