-- Laws about the tags of a component by the events up to a day and by all events: the statements of `spans`.
use Rattle.std.specs.Prelude.{◌≡◌, ℕ, List, map}
use Rattle.list_words.specs.Order.{Ascends}
use Rattle.fact_kinds.specs.Facts.{Entry, goes_first}
use Rattle.ldar_law.specs.declared.equipment.Equipment.{Equipment}
use Rattle.ldar_law.specs.Equipment.{classes_of}
use Rattle.ldar_law.specs.Events.{events_in}
use Rattle.ldar_law.specs.Spans.{spans_of}
pub use Rattle.ldar_law.specs.SpansByDay.{if_closed, span_on, detected_by, SpansUpToADay}
use Rattle.history_laws.specs.DayLaws.{up_to, item_on, events_to, AgreeUpTo}

-- the tags by the facts and the register up to a day are those detected by then, each as known on the day, if the leak definitions agree
-- up to the day
abbrev pub SpansByFactsUpToADay : Type 0
SpansByFactsUpToADay =
    (t : ℕ) (item : Equipment) (limit other : ℕ → ℕ) (facts : List Entry) → AgreeUpTo t other limit → Ascends goes_first facts
    → spans_of item.kind (events_in (item_on t item) (classes_of item.component (up_to t facts)) other (up_to t facts))
    ≡ map (span_on t item.kind (events_to t (events_in item (classes_of item.component facts) limit facts)))
    (detected_by t (spans_of item.kind (events_in item (classes_of item.component facts) limit facts)))
