-- Batches that are sent in one call: the replies to them if all of the added ones are kept.
use Rattle.std.specs.Prelude.{◌≡◌, ◌≢◌, ◌↔◌, ℕ, ◌+◌, ◌-◌, Bool, IsTrue, Some, None, List, [], ◌∷◌, ◌++◌, slice_get}
use Rattle.std.specs.List.{AllByRecursion, position_from}
use Rattle.fact_kinds.specs.declared.batch.Batch.{Batch}
use Rattle.fact_kinds.specs.Identity.{identity_of, is_of}
use Rattle.ldar_law.specs.declared.reply.Reply.{Reply}
use Rattle.ldar_law.specs.declared.request.Request.{Request}
use Rattle.ldar_law.specs.declared.request.Request.TheVariants.{Sync}
use Rattle.ldar_law.specs.Machine.{Answers, batch_added}
use Rattle.office_book.specs.Archive.{MayCome}
use Rattle.office_interface.specs.Asking.{HasRule}
use Rattle.office_book.specs.Serving.{certain, added, Serves}

-- the batch is of a handheld other than 0
abbrev pub IsOfHandheld : Batch → Type 0
IsOfHandheld batch = batch.handheld ≢ 0

-- the reply to a batch that is not added
pub record IsSaid (history : List Batch) (batch : Batch) (reply : Reply) : Type 0 where
  pub answers : Answers history (Sync batch) reply history
  pub ruled : HasRule reply

-- the reply to a batch after others of its group, if those are kept; the batch follows them if it is added
pub record IsTold (history : List Batch) (batch : Batch) (old new : List Batch) (reply : Reply) : Type 0 where
  pub serves : Serves ⊥ (history ++ old) (Sync batch ∷ []) (reply ∷ []) (certain (history ++ new))
  pub adds : new ≡ old ++ added (history ++ old) (Sync batch ∷ [])
  pub may_come : MayCome history new
  pub ruled : HasRule reply

-- the number of requests before the first one that adds a batch
abbrev pub before_adding : List Batch → List Request → ℕ
before_adding history [] = 0
before_adding history (request ∷ requests) = elim (batch_added history request) [ None ↦ before_adding history requests + 1 | Some batch ↦ 0 ]

-- the replies to requests if all the batches that they add are kept, and these batches
pub record IsSorted (history : List Batch) (requests : List Request) (said : List Reply) (batches : List Batch) (first : ℕ) : Type 0 where
  pub serves : Serves ⊥ history requests said (certain (history ++ batches))
  pub adds : added history requests ≡ batches
  pub may_come : MayCome history batches
  pub ruled : AllByRecursion HasRule said
  pub before : first ≡ before_adding history requests

-- the replies to requests that add no batch, because the office is out of memory
pub record IsUnwritten (history : List Batch) (requests : List Request) (said : List Reply) : Type 0 where
  pub serves : Serves ⊥ history requests said (certain history)
  pub ruled : AllByRecursion HasRule said

-- the first of the other batches with the identity of this one: its position, and whether it is the same batch; the other batches begin at
-- position `first`
pub record IsAmong (first : ℕ) (others : List Batch) (batch : Batch) (position : ℕ) (same : Bool) : Type 0 where
  pub stands : position_from (is_of (identity_of batch)) first others ≡ Some position
  pub kept : Batch
  pub there : slice_get others (position - first) ≡ Some kept
  pub same_if : IsTrue same ↔ (kept ≡ batch)
