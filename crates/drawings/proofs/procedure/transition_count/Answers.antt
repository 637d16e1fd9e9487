use Rattle.std.proofs.Common.{arith, rules}
use Rattle.std.specs.List.{range_with_len}
use Rattle.std.proofs.lemmas.Iterator.{YieldsList-from_range, YieldsList-from_map}
use Rattle.std.proofs.lemmas.Iterator.Consumers.{fits_by_from_yields_list}
use Rattle.drawings.specs.Texts.{transitions_of}
use Rattle.drawings.proofs.Rows.{transitions_few}
use Rattle.drawings.proofs.procedure.transition_count.Goals as goal

pub sum-requires-clause-fits : goal.sum-requires-clause-fits
sum-requires-clause-fits g c =
    let m = g.S.System.meaning c.args.source.now in
    fits_by_from_yields_list (transitions_of m) (range_with_len 0 m.count) c.map.result _ (YieldsList-from_map _ (transitions_of m) (YieldsList-from_range 0 c.states.result m.count (cc) (omega (arith, c.states.ensures))) c.map.ensures.closure (λ x r q k. search rules))
    (transitions_few m (g.met.S.System.lawful c.args.source.now))
