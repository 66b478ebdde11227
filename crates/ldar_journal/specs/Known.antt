-- What is known about the batches read so far.
use Rattle.std.specs.Prelude.{◌≡◌, ℕ, ◌+◌, ◌≤◌, None, List, [], ◌∷◌, ◌++◌, length, map}
use Rattle.fact_kinds.specs.declared.limits.TheConstants.{MOST_FACTS}
use Rattle.batch_positions.specs.Positions.{position_in, PositionsState}
use Rattle.fact_kinds.specs.declared.batch.Batch.{Batch}
use Rattle.fact_kinds.specs.declared.identity.Identity.{Identity}
use Rattle.fact_kinds.specs.Identity.{identity_of}
use Rattle.ldar_journal.specs.Image.{fact_count, IsKept}

-- these are the identities of the batches, in order, and the number of their facts; the batches may be kept
pub record IsKnown (history : List Batch) (identities : List Identity) (facts : ℕ) : Type 0 where
  pub in_order : identities ≡ map identity_of history
  pub counted : facts ≡ fact_count history
  pub kept : IsKept history

-- a batch with a new identity is added, and there are not too many facts
pub record AddsBatch (old new : PositionsState) (facts : ℕ) (batch : Batch) (more : ℕ) : Type 0 where
  pub is_new : position_in (identity_of batch) old.identities ≡ None
  pub added : new.identities ≡ old.identities ++ identity_of batch ∷ []
  pub room : new.room + 1 ≡ old.room
  pub count : more ≡ facts + length batch.facts
  pub fits : more ≤ MOST_FACTS
