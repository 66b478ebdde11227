use Rattle.std.proofs.Common.{◌≡◌, ◌+◌, ◌≤◌, true, List, [], length, take, filter}
use Rattle.std.specs.Prelude.{sum_by}
use Rattle.std.specs.List.{AllByRecursion}
use Rattle.fact_kinds.specs.Facts.{Entry}
use Rattle.fact_store.specs.Kept.{facts_in}
use Rattle.ldar_law.specs.Slices.{facts_of_component}
use Rattle.ldar_law.specs.Stirred.{instruments_read, is_touched, touched}
use Rattle.unit_summaries.specs.Cost.{AreReady, AreTouched, cost_left}
use Rattle.unit_summaries.specs.Kept.{AreCounted}
use Rattle.unit_summaries.specs.Rows.{RenewsRows, is_fresh}
use Rattle.unit_summaries.specs.Says.{Says}
use Rattle.unit_summaries.proofs.renewal.renew_members.Given as goal

abbrev pub invariant-loop-number : goal.invariant-loop-number
invariant-loop-number g l = record {
  value : RenewsRows (Says (facts_in l.lists.store.now)) l.initial.table l.table;
  fresh : AllByRecursion (λ n. is_fresh l.table n ≡ true) (take l.number-index l.number-items);
  kept : AreCounted (facts_in l.lists.store.now) l.table l.units l.kept.items;
  ready : AreReady l.ready.items (facts_in l.lists.store.now);
  counted : (news : List Entry) → AreTouched (facts_in l.lists.store.now) news l.unit l.initial.table
      → l.steps + cost_left (facts_in l.lists.store.now)
      (instruments_read (facts_in l.lists.store.now) news (touched (facts_in l.lists.store.now) news l.unit)) l.ready.items
      ≤ l.initial.steps
      + sum_by (λ m. length (facts_of_component m (facts_in l.lists.store.now)))
      (filter (is_touched (facts_in l.lists.store.now) news) (take l.number-index l.number-items))
      + cost_left (facts_in l.lists.store.now)
      (instruments_read (facts_in l.lists.store.now) news (touched (facts_in l.lists.store.now) news l.unit)) [];
}
