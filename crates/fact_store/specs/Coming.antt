-- The value of facts as they arrive, of which the first ones are listed.
use Rattle.std.specs.Prelude.{ℕ, List, [], take}
use Rattle.fact_kinds.specs.Facts.{Entry}
use Rattle.fact_kinds.specs.Stated.{Stated}
use Rattle.fact_store.specs.Kept.{Kept}

-- facts with their keys in order of arrival, the facts for which room is reserved, and how many of the first facts are listed
pub record Coming : Type 0 where
  pub arrived : List Entry
  pub spare : List Stated
  pub listed : ℕ

-- the store of all these facts
abbrev pub stored : Coming → Kept
stored coming = record { arrived = coming.arrived; spare = coming.spare }

-- the store of the listed facts alone
abbrev pub listed_front : Coming → Kept
listed_front coming = record { arrived = take coming.listed coming.arrived; spare = [] }
