use Rattle.std.proofs.Common.{◌≡◌, map, take}
use Rattle.fact_store.specs.Kept.{facts_in}
use Rattle.history_laws.specs.DayLaws.{up_to}
use Rattle.unit_summaries.specs.Known.{AreInOrder, known_by}
use Rattle.unit_summaries.proofs.MemberLemmas.{known_among}
use Rattle.unit_summaries.proofs.members.known_members.Given as goal

abbrev pub invariant-loop-number : goal.invariant-loop-number
invariant-loop-number l = record {
  value : map (known_by (up_to l.day (facts_in l.store))) l.known.items ≡ known_among (up_to l.day (facts_in l.store)) (take l.number-index l.number-items);
  ordered : AreInOrder l.known.items;
}
