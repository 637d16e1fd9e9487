use Rattle.std.proofs.Common.{string_bytes, ap, ◌∙◌}
use Rattle.listings.proofs.Listing.{not_listed, also_listed}
use Rattle.listings.proofs.classes.push_members.Goals as goal
use Rattle.listings.proofs.classes.push_members.Goals.{then-class-c+in_ok-push_str+in_ok-push_state, else-class-c}

pub loop-s-preserved : goal.loop-s-preserved
loop-s-preserved c =
    let out = string_bytes c.if-class-c.out in
    let at = not_listed c.args.n c.args.classes.now c.args.c c.loop-s.s (string_bytes c.args.out.now) (string_bytes c.loop-s.out) c.loop-s.fresh c.loop-s.invariant in
    let also = also_listed c.args.n c.args.classes.now c.args.c c.loop-s.s (string_bytes c.args.out.now) (string_bytes c.loop-s.out) c.loop-s.fresh c.loop-s.invariant in
    elim c.if-class-c.branch [
      | then-class-c+in_ok-push_str+in_ok-push_state w ↦
          also w.separator.result.now (string_bytes w.push_str.new.self) out c.if-class-c.fresh w.if-class-c.true w.separator.ensures w.in_ok-push_str.ensures.bytes (ap string_bytes w.out-is ∙ w.in_ok-push_state.ensures) w.fresh-is
      | else-class-c w ↦ at out c.if-class-c.fresh w.if-class-c.false (ap string_bytes w.out-is) w.fresh-is
    ]
