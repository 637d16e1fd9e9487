use Rattle.std.proofs.Common.{sym, ap, ◌∙◌, rules}
use Rattle.std.specs.List.{slice_get}
use Rattle.std.proofs.lemmas.Iterator.{YieldsList-from_slice}
use Rattle.std.proofs.lemmas.Iterator.Adapters.{option_map_id}
use Rattle.std.proofs.lemmas.Iterator.Consumers.{YieldsList-from_enumerate, YieldsList-from_filter_map, nth_from_yields_List}
use Rattle.listings.specs.Offsets.{action_offsets}
use Rattle.listings.proofs.Seeking.{action_place, offsets_filtered, from_one_none, from_one_some}
use Rattle.listings.proofs.offsets.action_offset.Goals as goal

pub returns-in_err-ahead : goal.returns-in_err-ahead
returns-in_err-ahead c = c.from_residual.ensures ∙ from_one_none c.args.place (action_offsets 0 c.args.text.now) c.in_err-ahead.ensures

pub returns : goal.returns
returns c =
    let text = c.args.text.now in
    let ahead = c.in_ok-ahead.ahead in
    sym (option_map_id c.nth.result)
    ∙ nth_from_yields_List c.nth.result _ ahead c.nth.ensures.ran (YieldsList-from_filter_map _ action_place (YieldsList-from_enumerate (YieldsList-from_slice text (cc)) (cc)) c.filter_map.ensures.closure (λ x r q k. search rules))
    ∙ ap (λ xs. slice_get xs ahead) (offsets_filtered 0 text)
    ∙ from_one_some c.args.place ahead (action_offsets 0 text) c.in_ok-ahead.ensures.0 c.in_ok-ahead.ensures.1
