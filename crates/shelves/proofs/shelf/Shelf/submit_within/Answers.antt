use Rattle.std.proofs.Common.{rules}
use Rattle.shelves.proofs.Running.{same_performed, unlike_performed}
use Rattle.shelves.proofs.shelf.Shelf.submit_within.Goals as goal

pub returns-in-Ok : goal.returns-in-Ok
returns-in-Ok g c = same_performed _ _ _ _ _ _ _ _ (search rules) (search rules) c.in-Ok.ensures.moved

pub returns-in-Err : goal.returns-in-Err
returns-in-Err g c = let h = c.in-Err.ensures in unlike_performed c.in-Err.fault c.unlike.result _ _ _ _ _ _ _ _ _ _ (search rules) (search rules) c.unlike.ensures h.moved h.submitted
