-- How the lists of places receive the place of one more fact.
use Rattle.std.specs.Prelude.{◌≡◌, ℕ, ◌+◌, ◌<◌, ◌≤◌, Bool, false, not, IsTrue, if◌then◌else◌, Vec, Option, List, [], ◌∷◌, ◌++◌, length, slice_get}
use Rattle.std.specs.List.{AllByRecursion}
use Rattle.std.specs.Option.{option_map_or}
use Rattle.list_words.specs.Order.{put_in_order, Ascends}
use Rattle.fact_kinds.specs.declared.key.Key.{Key}
use Rattle.fact_kinds.specs.Facts.{Entry, is_earlier, goes_first}
use Rattle.fact_kinds.specs.Named.{is_numbered}
use Rattle.fact_kinds.specs.Stated.{Stated}
use Rattle.fact_store.specs.declared.place.Place.{Place}
use Rattle.fact_store.specs.Kept.{entries_at}
use Rattle.fact_store.specs.Lists.{items_in, room_in}

-- each place is one of the first `count` facts'
abbrev pub AreHeld : ℕ → List Place → Type 0
AreHeld count places = AllByRecursion (λ place. place.at < count) places

-- the fact at a place is not later than this key
abbrev pub is_up_to : List Entry → Key → Place → Bool
is_up_to arrived key place = option_map_or (λ e. not (is_earlier key e.0)) (slice_get arrived place.at) false

-- the place of one more fact can be added to the list of its number
pub record CanTake {Z : Type 0} (arrived : List Entry) (number : Option ℕ) (lists : List (Vec Place Z)) : Type 0 where
  pub roomy : (n : ℕ) → IsTrue (is_numbered number n) → 0 < room_in lists n
  pub held : (n : ℕ) → AreHeld (length arrived) (items_in lists n)
  pub ordered : (n : ℕ) → Ascends goes_first (entries_at arrived (items_in lists n))

-- the place of one more fact was added to the list of its number, in key order, and the other lists are unchanged
pub record Takes {Z : Type 0} (arrived : List Entry) (number : Option ℕ) (key : Key) (old new : List (Vec Place Z)) : Type 0 where
  pub held : (n : ℕ) → AreHeld (length arrived + 1) (items_in new n)
  pub listed : (n : ℕ) (fact : Stated) → entries_at (arrived ++ (key, fact) ∷ []) (items_in new n)
      ≡ (if is_numbered number n then put_in_order goes_first (key, fact) (entries_at arrived (items_in old n)) else entries_at arrived (items_in old n))
  pub room : (n : ℕ) → room_in old n ≤ room_in new n + (if is_numbered number n then 1 else 0)
