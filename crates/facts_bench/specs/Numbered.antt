-- What the bench knows of the facts in its store: their number, and that the next batch numbers are unused.
use Rattle.std.specs.Prelude.{◌≡◌, ℕ, ◌≤◌, false, List, length}
use Rattle.fact_kinds.specs.declared.key.Key.{Key}
use Rattle.fact_kinds.specs.Facts.{Entry}
use Rattle.fact_store.specs.Kept.{is_held}

-- this many facts arrived, and none of their keys has this batch number or a later one
pub record AreNumbered (came : ℕ) (arrived : List Entry) : Type 0 where
  pub count : length arrived ≡ came
  pub later_numbers_free : (key : Key) → came ≤ key.number → is_held key arrived ≡ false
