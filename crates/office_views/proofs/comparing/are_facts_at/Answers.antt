use Rattle.std.proofs.Common.{◌≡◌, [], ◌∷◌, ◌++◌, length, take, drop, map, refl, sym, ap, ◌∙◌}
use Rattle.std.proofs.lemmas.Option.{slice_get_read}
use Rattle.office_views.proofs.PlaceLemmas.{stated_at}
use Rattle.office_views.proofs.TakingLemmas.{take_next}
use Rattle.office_views.proofs.comparing.are_facts_at.Goals as goal

pub loop-index-preserved : goal.loop-index-preserved
loop-index-preserved g c =
    let arrived = c.args.store.now.arrived in
    let facts = c.args.facts.now in
    let i = c.loop-index.index in
    let stated = c.fact.result.1.now in
    let item = c.index-facts-index.result in
    let found = stated_at arrived c.args.first i (c.fact.result.0.now, stated) c.fact.ensures.value in
    let here = slice_get_read facts (length facts) i item refl c.loop-index-test.true c.index-facts-index.is in
    let same : stated ≡ item = c.is_same.ensures.value.0 c.if-not-is_same.false in
    take_next (drop c.args.first (map (λ e. e.1) arrived)) i stated found ∙ ap (λ xs. xs ++ stated ∷ []) c.loop-index.invariant
    ∙ ap (λ x. take i facts ++ x ∷ []) same ∙ sym (take_next facts i item here)
