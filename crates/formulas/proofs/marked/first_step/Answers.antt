use Rattle.std.proofs.Common.{◌==◌, ◌&&◌, slice_index, rules, sym, ◌∙◌}
use Rattle.std.proofs.lemmas.Iterator.Search.{find_from_yields_List}
use Rattle.std.proofs.lemmas.Iterator.Consumers.{YieldsList-from_first}
use Rattle.std.proofs.lemmas.Iterator.Adapters.{option_map_id}
use Rattle.formulas.proofs.marked.first_step.Goals as goal

pub returns : goal.returns
returns g c =
    let found = find_from_yields_List (λ x. (x.0 == c.args.action) && (slice_index c.args.row.now x.1 == 1)) c.find.new.self _ c.find.result c.find.ensures.ran (YieldsList-from_first (λ x. x) _ _ c.of.ensures) (λ x b q h. search rules) in
    sym (option_map_id c.find.result) ∙ found
