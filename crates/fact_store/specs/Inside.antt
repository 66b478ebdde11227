-- The invariants of a store, and of facts of which only the first ones are listed.
use Rattle.std.specs.Prelude.{◌≡◌, ℕ, ◌≤◌, Vec, Option, List, [], length, take, filter}
use Rattle.list_words.specs.Order.{in_order}
use Rattle.fact_kinds.specs.declared.body.FactBody.{FactBody}
use Rattle.fact_kinds.specs.Facts.{Entry, goes_first}
use Rattle.fact_kinds.specs.Stated.{Stated}
use Rattle.fact_store.specs.declared.place.Place.{Place}
use Rattle.fact_store.specs.declared.index.Index.{Index}
use Rattle.fact_store.specs.declared.indexes.Indexes.{Indexes}
use Rattle.fact_store.specs.declared.naming.Naming.{Naming}
use Rattle.fact_store.specs.declared.naming.Naming.TheVariants.{Component, Unit as OfUnit, Tested, Reading}
use Rattle.fact_store.specs.Kept.{entries_at, names}
use Rattle.fact_store.specs.Listing.{HoldInTurn}
use Rattle.fact_store.specs.Lists.{items_in}
use Rattle.fact_store.specs.Naming.{HasRoomFor, named_by}
use Rattle.fact_store.specs.Takes.{AreHeld}

-- the lists have the places of the facts of their numbers, in key order, and room for the reserved facts
pub record KeepsLists {Z : Type 0} (naming : FactBody → Option ℕ) (arrived : List Entry) (spare : List Stated) (lists : List (Vec Place Z)) : Type 0 where
  pub held : (n : ℕ) → AreHeld (length arrived) (items_in lists n)
  pub listed : (n : ℕ) → entries_at arrived (items_in lists n) ≡ filter (names naming n) (in_order goes_first arrived)
  pub room : HasRoomFor naming spare lists

-- an index is by this number, and its lists have all facts
pub record KeepsIndex (naming : Naming) (arrived : List Entry) (spare : List Stated) (index : Index) : Type 0 where
  pub by : index.naming ≡ naming
  pub all : index.listed ≡ length arrived
  pub lists : KeepsLists (named_by naming) arrived spare index.lists.items

-- an index is by this number, and its lists have the first facts to arrive, as many as it records
pub record KeepsFirst (naming : Naming) (arrived : List Entry) (index : Index) : Type 0 where
  pub by : index.naming ≡ naming
  pub within : index.listed ≤ length arrived
  pub lists : HoldInTurn (named_by naming) (take index.listed arrived) (in_order goes_first (take index.listed arrived)) index.lists.items

-- an index is by this number, and lists nothing
pub record IsEmpty (naming : Naming) (index : Index) : Type 0 where
  pub by : index.naming ≡ naming
  pub empty : index.lists.items ≡ []
  pub none : index.listed ≡ 0

-- the invariant of a store: each index lists all facts, and has room for the reserved ones
pub record KeepAll (arrived : List Entry) (spare : List Stated) (indexes : Indexes) : Type 0 where
  pub by_component : KeepsIndex Component arrived spare indexes.components
  pub by_unit : KeepsIndex OfUnit arrived spare indexes.units
  pub by_instrument : KeepsIndex Tested arrived spare indexes.instruments
  pub by_reading : KeepsIndex Reading arrived spare indexes.readings

-- the invariant of facts of which only the first ones are listed: each index lists some of the first
pub record KeepFirst (arrived : List Entry) (indexes : Indexes) : Type 0 where
  pub by_component : KeepsFirst Component arrived indexes.components
  pub by_unit : KeepsFirst OfUnit arrived indexes.units
  pub by_instrument : KeepsFirst Tested arrived indexes.instruments
  pub by_reading : KeepsFirst Reading arrived indexes.readings

-- no index lists anything
pub record AreEmpty (indexes : Indexes) : Type 0 where
  pub by_component : IsEmpty Component indexes.components
  pub by_unit : IsEmpty OfUnit indexes.units
  pub by_instrument : IsEmpty Tested indexes.instruments
  pub by_reading : IsEmpty Reading indexes.readings
