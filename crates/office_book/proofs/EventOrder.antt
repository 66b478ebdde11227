-- The events of a component by the facts up to a day are in key order.
use Rattle.std.proofs.Common.{◌≡◌, ℕ, Option, Some, None, IfSome, List, option_map}
use Rattle.std.specs.Prelude.{IsTrue, nat_le}
use Rattle.list_words.specs.Order.{Ascends}
use Rattle.list_words.proofs.PutLemmas.{ascends_filter}
use Rattle.fact_kinds.specs.declared.batch.Batch.{Batch}
use Rattle.fact_kinds.specs.Facts.{Entry, facts_of, facts_to, goes_first, is_earlier}
use Rattle.fact_kinds.specs.Identity.{identities_differ}
use Rattle.fact_kinds.proofs.OrderFree.{facts_ascend}
use Rattle.fact_kinds.proofs.KeyOrder.{strict_goes_first}
use Rattle.ldar_law.specs.declared.equipment.Equipment.{Equipment}
use Rattle.ldar_law.specs.declared.history.History.{History}
use Rattle.ldar_law.specs.Equipment.{classes_of, equipment_of}
use Rattle.ldar_law.specs.Force.{limit_on}
use Rattle.ldar_law.specs.Units.{history_of_component, known_of}
use Rattle.ldar_law.proofs.EventLemmas.{events_ascend}

-- the events of a history, if there is one, are in key order
abbrev pub IsInKeyOrder : Option History → Type 0
IsInKeyOrder found = IfSome found (λ history. Ascends (λ a b. is_earlier a.key b.key) history.events)

in_order_by : (facts : List Entry) (found : Option Equipment) → Ascends goes_first facts
    → IsInKeyOrder (option_map (λ item. record { equipment = item; events = (known_of facts item).events }) found)
in_order_by facts None up = tt
in_order_by facts (Some item) up = events_ascend item (classes_of item.component facts) (limit_on item (classes_of item.component facts)) facts up

pub history_in_order : (component day : ℕ) (history : List Batch) → IsTrue (identities_differ history)
    → IsInKeyOrder (history_of_component component (facts_to day history))
history_in_order component day history differ =
    in_order_by (facts_to day history) (equipment_of component (facts_to day history))
    (ascends_filter goes_first strict_goes_first (λ e. nat_le e.0.day day) (facts_of history) (facts_ascend history differ))
