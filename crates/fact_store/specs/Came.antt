-- The invariant of facts that arrived and are not listed.
use Rattle.std.specs.Prelude.{ℕ, ◌+◌, ◌≤◌, Vec, length, drop}
use Rattle.std.specs.Vec.{vec_len, vec_capacity}
use Rattle.fact_kinds.specs.declared.limits.TheConstants.{MOST_FACTS}
use Rattle.list_words.specs.Order.{AllApart}
use Rattle.fact_kinds.specs.Facts.{Entry, goes_first}
use Rattle.fact_kinds.specs.Stated.{Stated}

-- no two facts have the same key, there are at most `MOST_FACTS`, and there is room for the reserved ones still to come
pub record HaveRoom {Z : Type 0} (arrived : Vec Entry Z) (reserved : Vec Stated Z) (used : ℕ) : Type 0 where
  pub apart : AllApart goes_first arrived.items
  pub few : vec_len arrived ≤ MOST_FACTS
  pub come : used ≤ vec_len reserved
  pub room : vec_len arrived + length (drop used reserved.items) ≤ vec_capacity arrived
