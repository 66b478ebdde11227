-- Frames at the front of some bytes.
use Rattle.std.specs.Prelude.{◌≡◌, ℕ, ◌<◌, ◌≤◌, List, ◌∷◌, ◌++◌, length, drop}
use Rattle.ldar_journal.specs.declared.frame.TheConstants.{MOST_PAYLOAD}
use Rattle.fact_kinds.specs.declared.batch.Batch.{Batch}
use Rattle.fact_kinds.specs.Fields.{big_endian}
use Rattle.ldar_journal.specs.Image.{frame, IsFrame}

-- an open gate, a length in range, and a payload of that length
pub record IsPayloadAt (bytes payload : List ℕ) : Type 0 where
  pub some : 0 < length payload
  pub fits : length payload ≤ MOST_PAYLOAD
  pub rest : List ℕ
  pub stands : bytes ≡ 1 ∷ (big_endian 4 (length payload) ++ payload ++ rest)

-- the frame of these batches is at the front and takes this many bytes
pub record IsFrameOf (bytes : List ℕ) (batches : List Batch) (used : ℕ) : Type 0 where
  pub is : IsFrame batches
  pub used_is : used ≡ length (frame batches)
  pub within : used ≤ length bytes
  pub stands : bytes ≡ frame batches ++ drop used bytes

-- no frame is at the front
abbrev pub HasNoFrame : List ℕ → Type 0
HasNoFrame bytes = (batches : List Batch) (rest : List ℕ) → IsFrame batches → ¬ (bytes ≡ frame batches ++ rest)
