-- How new facts are counted and listed, part by part.
use Rattle.std.specs.Prelude.{◌≡◌, ℕ, ◌≤◌, List, length, take, drop, max}
use Rattle.fact_kinds.specs.Facts.{Entry}
use Rattle.fact_kinds.specs.Stated.{Stated}
use Rattle.fact_store.specs.declared.index.Index.{Index}
use Rattle.fact_store.specs.declared.indexes.Counts.{Counts}
use Rattle.fact_store.specs.declared.indexes.Indexes.{Indexes}
use Rattle.fact_store.specs.declared.naming.Naming.{Naming}
use Rattle.fact_store.specs.declared.naming.Naming.TheVariants.{Component, Unit as OfUnit, Tested, Reading}
use Rattle.fact_store.specs.Listing.{AreCounts, HoldInTurn, in_turn, named_in}
use Rattle.fact_store.specs.Lists.{room_in}
use Rattle.fact_store.specs.Naming.{named_by}

-- the lists have the listed facts and the new ones before `end` in order of arrival, and room for the others
pub record KeepsTurn (naming : Naming) (arrived : List Entry) (spare : List Stated) (end : ℕ) (index : Index) : Type 0 where
  pub by : index.naming ≡ naming
  pub within : index.listed ≤ length arrived
  pub turned : HoldInTurn (named_by naming) (take (max index.listed end) arrived) (in_turn index.listed (take (max index.listed end) arrived)) index.lists.items
  pub room : (n : ℕ) → named_in (named_by naming) (drop (max index.listed end) arrived) spare n ≤ room_in index.lists.items n

-- each index is in that state
pub record KeepTurn (arrived : List Entry) (spare : List Stated) (end : ℕ) (indexes : Indexes) : Type 0 where
  pub by_component : KeepsTurn Component arrived spare end indexes.components
  pub by_unit : KeepsTurn OfUnit arrived spare end indexes.units
  pub by_instrument : KeepsTurn Tested arrived spare end indexes.instruments
  pub by_reading : KeepsTurn Reading arrived spare end indexes.readings

-- each count is the number of unlisted and reserved facts that have its number
abbrev pub AreCountsOf : Index → List Entry → List Stated → List ℕ → Type 0
AreCountsOf index arrived spare counts = AreCounts (named_by index.naming) (drop index.listed arrived) spare counts

-- the counts of each index are like that
pub record CountAll (indexes : Indexes) (arrived : List Entry) (spare : List Stated) (counts : Counts) : Type 0 where
  pub by_component : AreCountsOf indexes.components arrived spare counts.components.items
  pub by_unit : AreCountsOf indexes.units arrived spare counts.units.items
  pub by_instrument : AreCountsOf indexes.instruments arrived spare counts.instruments.items
  pub by_reading : AreCountsOf indexes.readings arrived spare counts.readings.items
