use Rattle.std.proofs.Common.{ap, ◌∙◌}
use Rattle.ldar_law.specs.Equipment.{classes_of}
use Rattle.ldar_law.specs.Events.{events_in}
use Rattle.ldar_law.specs.Spans.{spans_of}
use Rattle.ldar_law.proofs.EventLemmas.{events_ascend}
use Rattle.history_laws.specs.SpanLaws.{SpansByFactsUpToADay}
pub use Rattle.ldar_law.proofs.SpansByDayLemmas.{spans_up_to_a_day}
use Rattle.history_laws.proofs.EventsUpTo.{events_by_own_register}

pub spans_by_facts_up_to_a_day : SpansByFactsUpToADay
spans_by_facts_up_to_a_day t item limit other facts agree up =
    ap (spans_of item.kind) (events_by_own_register t item limit other facts agree)
    ∙ spans_up_to_a_day t item.kind (events_in item (classes_of item.component facts) limit facts)
    (events_ascend item (classes_of item.component facts) limit facts up)
