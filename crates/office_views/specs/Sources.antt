-- What a view is made from.
use Rattle.std.specs.Prelude.{◌≡◌, ℕ, ◌≤◌, Some, List, length}
use Rattle.std.specs.List.{AllByRecursion}
use Rattle.list_words.specs.Order.{Ascends}
use Rattle.fact_kinds.specs.Facts.{Entry, goes_first}
use Rattle.fact_store.specs.Kept.{Kept, facts_in}
use Rattle.history_laws.specs.DayLaws.{up_to}
use Rattle.history_laws.specs.RangeLaws.{IsInRange}
use Rattle.history_laws.specs.RulyLaws.{IsEachOnce}
use Rattle.ldar_law.specs.declared.numbers.TheConstants.{LAST_FACT_DAY}
use Rattle.ldar_law.specs.declared.unit_entry.UnitEntry.{UnitEntry}
use Rattle.ldar_law.specs.Equipment.{unit_entry_of}
use Rattle.ldar_law.specs.Slices.{register_facts}
use Rattle.unit_summaries.specs.Sound.{Are, IsRenewed, Sums}
use Rattle.office_views.specs.declared.source.Source.{Source}

-- all facts of a source, and those up to the view day
abbrev pub facts_from : Source → List Entry
facts_from source = facts_in source.store.now

abbrev pub facts_by : Source → List Entry
facts_by source = up_to source.day (facts_from source)

-- the entries of these facts are those of a register; each component and each process unit is entered once, each fact is in its ranges, and
-- no process unit starts up after 2097-12-31
pub record AreKept (facts entries : List Entry) : Type 0 where
  pub register : entries ≡ register_facts facts
  pub once : IsEachOnce facts
  pub in_range : AllByRecursion IsInRange facts
  pub startups : (number : ℕ) (unit : UnitEntry) → unit_entry_of number facts ≡ Some unit → unit.startup ≤ LAST_FACT_DAY

-- a store whose facts are in key order, all of them listed, with their register and summaries
pub record AreReady (store register : Kept) (summaries : Sums) : Type 0 where
  pub ordered : Ascends goes_first (facts_in store)
  pub kept : AreKept (facts_in store) (facts_in register)
  pub sound : Are (facts_in store) store.arrived (length store.arrived) summaries

-- .. of which those of a process unit are up to date
pub record IsReady (source : Source) (unit : ℕ) : Type 0 where
  pub ready : AreReady source.store.now source.register.now source.summaries.now
  pub renewed : IsRenewed (facts_from source) unit source.summaries.now
