use Rattle.std.proofs.Common.{◌∙◌, arith, length-set}
use Rattle.std.proofs.lemmas.List.FromFn.{fill_by_all}
use Rattle.std.proofs.lemmas.List.Edits.{fill_by_more}
use Rattle.lts.proofs.action_map.ActionMap.identity.Goals as goal

pub loop-action-preserved : goal.loop-action-preserved
loop-action-preserved c =
    let i = c.loop-action.action in
    let entries = c.loop-action.entry-items in
    (length-set entries i i ∙ c.loop-action.invariant.0, fill_by_more (λ k. k) entries i 0 (omega arith) c.loop-action.invariant.1)

pub returns : goal.returns
returns c = fill_by_all (λ k. k) c.loop-action.entry-items 64 0 c.loop-action.invariant.0 (λ k l. c.loop-action.invariant.1 k (omega (arith, l)))
