use Rattle.std.proofs.Common.{refl}
use Rattle.shelves.proofs.Rows.{new_kept, new_reached}
use Rattle.shelves.proofs.shelf.Shelf.new.Goals as goal

pub invariant_of-result : goal.invariant_of-result
invariant_of-result c = record { room = refl; kept = ∣ new_kept ∣₁; reached = ∣ new_reached c.args.number ∣₁ }
