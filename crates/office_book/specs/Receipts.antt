-- The receipts of a run of calls, and their batches after a crash.
use Rattle.std.specs.Prelude.{◌≡◌, ℕ, Some, List}
use Rattle.std.specs.List.{AllByRecursion}
use Rattle.fact_kinds.specs.declared.batch.Batch.{Batch}
use Rattle.ldar_journal.specs.Image.{Opens}
use Rattle.ldar_law.specs.declared.reply.Reply.TheVariants.{Receipt}
use Rattle.ldar_law.specs.declared.request.Request.TheVariants.{Sync}
use Rattle.ldar_law.specs.Machine.{Call, Turn, batch_at}

-- the image opens to a history with this batch at this position, from 1
pub record HoldsAt (image : List ℕ) (position : ℕ) (batch : Batch) : Type 0 where
  pub history : List Batch
  pub opens : Opens image history
  pub stands : batch_at history position ≡ Some batch

-- the turn's request was to keep this batch, and the reply was a receipt for this position
pub record IsReceipted (turn : Turn) (batch : Batch) (position : ℕ) : Type 0 where
  pub handheld : ℕ
  pub number : ℕ
  pub asked : turn.request ≡ Sync batch
  pub told : turn.reply ≡ Receipt handheld number position

-- the batch of the turn's receipt is at its position in each of these images
abbrev pub IsReceiptKept : (List ℕ → Type 0) → Turn → Type 0
IsReceiptKept images turn = (batch : Batch) (position : ℕ) → IsReceipted turn batch position → (image : List ℕ) → images image → HoldsAt image position batch

-- the batches of the receipts of these calls are at their positions in each image left since their call returned
abbrev pub AreReceiptsKept : (ℕ → List ℕ → Type 0) → List Call → Type 0
AreReceiptsKept left calls = AllByRecursion (λ call. AllByRecursion (IsReceiptKept (left call.end.clock)) call.turns) calls
