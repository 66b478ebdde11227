-- Batches whose facts the register can take.
use Rattle.std.specs.Prelude.{◌≡◌, ◌+◌, ◌≤◌, false, List, length}
use Rattle.std.specs.List.{AllByRecursion, flat_map}
use Rattle.fact_kinds.specs.declared.batch.Batch.{Batch}
use Rattle.fact_kinds.specs.declared.limits.TheConstants.{MOST_FACTS}
use Rattle.fact_kinds.specs.Facts.{Entry, entries_of}
use Rattle.fact_store.specs.Kept.{is_held}
use Rattle.history_laws.specs.RulyLaws.{EntersFirst}
use Rattle.ldar_law.specs.Slices.{register_facts}

-- no fact of some has a key of a fact of the batch, and with it they are not too many
pub record HasOwnKeys (arrived : List Entry) (batch : Batch) : Type 0 where
  pub new_keys : AllByRecursion (λ e. is_held e.0 arrived ≡ false) (entries_of batch)
  pub few : length arrived + length batch.facts ≤ MOST_FACTS

-- these are the entries of a history, after which the batch can be entered
pub record CanEnter (entered : List Entry) (batch : Batch) : Type 0 where
  pub history : List Batch
  pub came : entered ≡ register_facts (flat_map entries_of history)
  pub first : EntersFirst history batch
  pub own_keys : HasOwnKeys (flat_map entries_of history) batch
