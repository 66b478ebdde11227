-- The history of a component, from its summary.
use Rattle.std.proofs.Common.{◌≡◌, ℕ, true, Option, Some, None, List, option_map, option_and_then, refl, sym, ap, ◌∙◌}
use Rattle.list_words.specs.Order.{Ascends}
use Rattle.list_words.proofs.Members.{all_at, among_from_Contains}
use Rattle.fact_kinds.specs.Facts.{Entry, goes_first}
use Rattle.history_laws.specs.DayLaws.{if_begun, up_to}
use Rattle.history_laws.proofs.MemberLemmas.{components_are_members}
use Rattle.history_laws.proofs.RegisterUpTo.{components_up_to_a_day}
use Rattle.history_laws.proofs.UpTo.{ascending_are_in_order}
use Rattle.ldar_law.specs.declared.equipment.Equipment.{Equipment}
use Rattle.ldar_law.specs.declared.history.History.{History}
use Rattle.ldar_law.specs.Equipment.{equipment_of, members_of}
use Rattle.ldar_law.specs.Units.{Known, history_of_component, known_of}
use Rattle.unit_summaries.specs.declared.known.KnownOn.{KnownOn}
use Rattle.unit_summaries.specs.Known.{known_by}
use Rattle.unit_summaries.specs.Rows.{is_fresh, row_of}
use Rattle.unit_summaries.specs.Says.{IsSaid}
use Rattle.unit_summaries.specs.Sound.{Are, IsRenewed, Sums}

-- the summary of a component says what the facts say, once those of its process unit are up to date
pub component_said : (facts arrived : List Entry) (listed : ℕ) (s : Sums) (item : Equipment) → Are facts arrived listed s
    → IsRenewed facts item.unit s → equipment_of item.component facts ≡ Some item → IsSaid facts item.component (row_of s.components item.component)
component_said facts arrived listed s item are renewed entered =
    are.fresh item.component (all_at (λ n. is_fresh s.components n ≡ true) (members_of item.unit facts) item.component renewed.members
    (among_from_Contains (members_of item.unit facts) item.component (components_are_members facts item.component item entered).1))

-- a component by the facts up to a day, from what all facts enter
pub equipment_on : (day number : ℕ) (facts : List Entry) (found : Option Equipment) → Ascends goes_first facts → equipment_of number facts ≡ found
    → option_and_then (if_begun day) found ≡ equipment_of number (up_to day facts)
equipment_on day number facts found up is =
    sym ((components_up_to_a_day day number facts (ascending_are_in_order facts up)).equipment ∙ ap (option_and_then (if_begun day)) is)

-- a component that was not entered has no history on any day
pub no_history : (day number : ℕ) (facts : List Entry) → Ascends goes_first facts → equipment_of number facts ≡ None
    → None ≡ history_of_component number (up_to day facts)
no_history day number facts up none =
    sym (ap (option_map (λ item. record { equipment = item; events = (known_of (up_to day facts) item).events }))
    ((components_up_to_a_day day number facts (ascending_are_in_order facts up)).equipment ∙ ap (option_and_then (if_begun day)) none))

-- the equipment and the events of a component
abbrev history_by : Known → History
history_by k = record { equipment = k.item; events = k.events }

-- .. as they are known on a day
abbrev history_on : KnownOn → History
history_on k = record { equipment = k.item; events = k.events.now }

-- both are one
known_history : (facts : List Entry) (known : Option KnownOn) → option_map history_on known ≡ option_map history_by (option_map (known_by facts) known)
known_history facts None = refl
known_history facts (Some k) = refl

-- .. and that of the law
found_history : (facts : List Entry) (found : Option Equipment) → option_map history_by (option_map (known_of facts) found)
    ≡ option_map (λ item. record { equipment = item; events = (known_of facts item).events }) found
found_history facts None = refl
found_history facts (Some item) = refl

-- what is known of a component gives its history
pub history_is : (facts : List Entry) (known : Option KnownOn) (found : Option Equipment)
    → option_map (known_by facts) known ≡ option_map (known_of facts) found
    → option_map history_on known ≡ option_map (λ item. record { equipment = item; events = (known_of facts item).events }) found
history_is facts known found is = known_history facts known ∙ ap (option_map history_by) is ∙ found_history facts found
