use Rattle.std.proofs.Common.{[], ◌∷◌, ◌++◌, drop, map, sym, ap, ◌∙◌}
use Rattle.office_views.proofs.PlaceLemmas.{stated_at}
use Rattle.office_views.proofs.TakingLemmas.{take_next}
use Rattle.office_views.proofs.copying.facts_at.Goals as goal

pub loop-index-preserved : goal.loop-index-preserved
loop-index-preserved g c =
    let arrived = c.args.store.now.arrived in
    let i = c.loop-index.index in
    let stated = c.fact.result.1.now in
    let found = stated_at arrived c.args.first i (c.fact.result.0.now, stated) c.fact.ensures.value in
    c.in_ok-push.ensures.items ∙ ap (λ xs. xs ++ stated ∷ []) c.loop-index.invariant
    ∙ sym (take_next (drop c.args.first (map (λ e. e.1) arrived)) i stated found)
