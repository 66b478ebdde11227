-- The value of a store: the facts that arrived, with their keys, and the reserved ones; and the facts of a number.
use Rattle.std.specs.Prelude.{◌≡◌, ◌<◌, length, filter, All, ℕ, Bool, Option, List, slice_get}
use Rattle.std.specs.List.{list_any, filter_map}
use Rattle.std.specs.Ordering.{is_eq}
use Rattle.list_words.specs.Order.{in_order}
use Rattle.fact_kinds.specs.declared.body.FactBody.{FactBody}
use Rattle.fact_kinds.specs.declared.key.Key.{Key}
use Rattle.fact_kinds.specs.Facts.{Entry, key_cmp, goes_first}
use Rattle.fact_kinds.specs.Named.{is_numbered}
use Rattle.fact_kinds.specs.Stated.{Stated}
use Rattle.fact_store.specs.declared.place.Place.{Place}

-- the value of a store: facts with their keys in order of arrival, and the facts for which room is reserved
pub record Kept : Type 0 where
  pub arrived : List Entry
  pub spare : List Stated

-- the facts of a store in key order
abbrev pub facts_in : Kept → List Entry
facts_in kept = in_order goes_first kept.arrived

-- a fact with this key arrived
abbrev pub is_held : Key → List Entry → Bool
is_held key arrived = list_any (λ e. is_eq (key_cmp e.0 key)) arrived

-- the facts at some places
abbrev pub entries_at : List Entry → List Place → List Entry
entries_at arrived places = filter_map (λ place. slice_get arrived place.at) places

-- the fact has this number
abbrev pub names : (FactBody → Option ℕ) → ℕ → Entry → Bool
names naming number entry = is_numbered (naming entry.1.body) number

-- the places are those of the facts of a number, in key order
pub record ArePlacesOf (naming : FactBody → Option ℕ) (number : ℕ) (kept : Kept) (places : List Place) : Type 0 where
  pub held : All (λ place. place.at < length kept.arrived) places
  pub facts : entries_at kept.arrived places ≡ filter (names naming number) (facts_in kept)
