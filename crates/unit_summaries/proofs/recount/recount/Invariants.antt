use Rattle.std.proofs.Common.{◌≡◌, ℕ, ◌<◌, ◌≤◌, length, get_or}
use Rattle.fact_store.specs.Kept.{facts_in}
use Rattle.unit_summaries.specs.declared.kept.DayTallies.{DayTallies}
use Rattle.unit_summaries.specs.declared.summary.Summary.{Summary}
use Rattle.unit_summaries.specs.Kept.{IsKept}
use Rattle.unit_summaries.specs.Rows.{PutsRow, Rows}
use Rattle.unit_summaries.proofs.recount.recount.Given as goal

abbrev pub invariant-loop-place : goal.invariant-loop-place
invariant-loop-place l = record {
  count : length l.kept.items ≡ length l.initial.kept.items;
  done : (k : ℕ) (d : DayTallies) → k < l.place → k < length l.initial.kept.items → (after : Rows Summary)
      → PutsRow l.number l.summary l.components after → IsKept (facts_in l.lists.store.now) after l.units (get_or l.kept.items k d);
  left : (k : ℕ) (d : DayTallies) → l.place ≤ k → get_or l.kept.items k d ≡ get_or l.initial.kept.items k d;
}
