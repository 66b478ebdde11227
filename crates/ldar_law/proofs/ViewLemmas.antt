use Rattle.std.proofs.Common.{◌≡◌, ℕ, ◌+◌, ◌<◌, Bool, false, nat_le, List, [], ◌∷◌, refl, ap, ◌∙◌, arith}
use Rattle.std.specs.Prelude.{filter}
use Rattle.std.specs.List.{flat_map, AllByRecursion}
use Rattle.std.proofs.lemmas.Bool.Decides.{nat_tests}
use Rattle.list_words.specs.Order.{put_in_order, put_each}
use Rattle.fact_kinds.specs.declared.batch.Batch.{Batch}
use Rattle.fact_kinds.specs.Facts.{Entry, goes_first, entries_from, entries_of, facts_of}
use Rattle.fact_kinds.specs.Stated.{Stated}
use Rattle.fact_kinds.proofs.OrderFree.{order_free, one_more_batch}
use Rattle.ldar_law.proofs.WeakOrder.{InOrder, each_in_order, put_keeps, put_filter, weak_goes_first}
use Rattle.ldar_law.specs.Shown.{view_day, view_of, shown}
use Rattle.ldar_law.specs.ViewLaws.{ViewsForgetOrder, ViewsForgetLaterDays}

-- views use only the facts in key order
pub views_forget_order : ViewsForgetOrder
unfolding shown
views_forget_order history other request moved differ =
    ap (λ facts. view_of request (filter (λ e. nat_le e.0.day (view_day request)) facts)) (order_free history other moved differ)

-- adding elements that do not pass does not change which elements pass
hidden : (q : Entry → Bool) (more facts : List Entry) → InOrder goes_first facts → AllByRecursion (λ e. q e ≡ false) more
    → filter q (put_each goes_first more facts) ≡ filter q facts
hidden q [] facts o all = refl
hidden q (e ∷ more) facts o all =
    hidden q more (put_in_order goes_first e facts) (put_keeps goes_first weak_goes_first e facts o) all.1
    ∙ put_filter goes_first weak_goes_first q e facts o
    ∙ rw all.0 refl

-- a fact of a day after the view day does not pass
later_days : (day : ℕ) (batch : Batch) (index : ℕ) (facts : List Stated) → AllByRecursion (λ fact. day < fact.day) facts
    → AllByRecursion (λ e. nat_le e.0.day day ≡ false) (entries_from batch index facts)
later_days day batch index [] later = tt
later_days day batch index (fact ∷ facts) later =
    let out : nat_le fact.day day ≡ false = grind (arith, nat_tests, later.0) in
    (out, later_days day batch (index + 1) facts later.1)

pub views_forget_later_days : ViewsForgetLaterDays
unfolding shown
views_forget_later_days history batch request differ later =
    ap (λ facts. view_of request facts)
    (ap (filter (λ e. nat_le e.0.day (view_day request))) (one_more_batch history batch differ)
    ∙ hidden (λ e. nat_le e.0.day (view_day request)) (entries_of batch) (facts_of history)
    (each_in_order goes_first weak_goes_first (flat_map entries_of history))
    (later_days (view_day request) batch 0 batch.facts later))
