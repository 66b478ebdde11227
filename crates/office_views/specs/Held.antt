-- What the views hold.
use Rattle.std.specs.Prelude.{List}
use Rattle.fact_kinds.specs.declared.batch.Batch.{Batch}

-- the batches that were adopted, in the order in which they came, and those that have room
pub record Held : Type 0 where
  pub adopted : List Batch
  pub spare : List Batch
