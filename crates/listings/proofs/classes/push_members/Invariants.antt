use Rattle.std.proofs.Common.{string_bytes}
use Rattle.listings.proofs.Listing.{Telling}
use Rattle.listings.proofs.classes.push_members.Given as goal

abbrev pub invariant-loop-s : goal.invariant-loop-s
invariant-loop-s l = Telling l.n l.classes l.c l.s (string_bytes l.initial.out) (string_bytes l.out) l.fresh
