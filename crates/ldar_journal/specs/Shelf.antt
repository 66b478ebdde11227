-- A journal and its disk.
use Rattle.std.specs.Prelude.{◌≡◌, ◌⊎◌, ℕ, ◌+◌, ◌<◌, Option, List, [], ◌∷◌, ◌++◌, length, take, drop}
use Rattle.std.specs.List.{AllByRecursion}
use Rattle.fact_kinds.specs.declared.batch.Batch.{Batch}
use Rattle.fact_kinds.specs.Fields.{big_endian}
use Rattle.ldar_journal.specs.Crash.{OnDisk}
use Rattle.ldar_journal.specs.Image.{payload, batches_of, end_of, IsFrame, IsFront, IsKept, EndsAt, OpensTo, Opens}

-- a journal in contracts: its disk, its frames, and the batches of a frame in doubt, if there is one
pub record Shelf (D : Type 0) : Type 0 where
  pub disk : D
  pub frames : List (List Batch)
  pub doubt : List Batch

-- the bytes after the gate of a frame: its length, its payload and a closed gate
abbrev pub behind_gate : List Batch → List ℕ
behind_gate batches = big_endian 4 (length (payload batches)) ++ payload batches ++ 0 ∷ []

-- these frames are before the place, and after a gate at the place, open or closed, is the whole frame of these batches, which may be kept
pub record IsInDoubt (bytes : List ℕ) (place : ℕ) (frames : List (List Batch)) (batches : List Batch) : Type 0 where
  pub within : place < length bytes
  pub front : IsFront (take place bytes) frames
  pub is : IsFrame batches
  pub kept : IsKept (batches_of frames ++ batches)
  pub rest : List ℕ
  pub stands : drop (place + 1) bytes ≡ behind_gate batches ++ rest

-- a closed gate is at the place, or a frame in doubt
abbrev pub Stands : List ℕ → ℕ → List (List Batch) → List Batch → Type 0
Stands bytes place frames [] = EndsAt bytes place frames
Stands bytes place frames (batch ∷ batches) = IsInDoubt bytes place frames (batch ∷ batches)

-- what a journal knows about itself on any disk: its frames may be kept, and its gate is after them
pub record IsCounted (place : ℕ) (frames : List (List Batch)) : Type 0 where
  pub each : AllByRecursion IsFrame frames
  pub kept : IsKept (batches_of frames)
  pub at_end : place ≡ end_of frames

-- what a journal knows about a frame in doubt: it may be kept and takes this many bytes after its gate
pub record IsTorn (frames : List (List Batch)) (batches : List Batch) (torn : ℕ) : Type 0 where
  pub is : IsFrame batches
  pub kept : IsKept (batches_of frames ++ batches)
  pub long : torn ≡ length (behind_gate batches)

-- no frame is in doubt and `torn` is 0, or a frame of `torn` bytes is in doubt
abbrev pub IsDoubt : List (List Batch) → List Batch → ℕ → Type 0
IsDoubt frames [] torn = torn ≡ 0
IsDoubt frames (batch ∷ batches) torn = IsTorn frames (batch ∷ batches) torn

-- The state of a journal's disk and place: the bytes, and each image that a crash may leave, are as the journal describes them.
pub record IsShelved (content : Option (List ℕ)) (images : List ℕ → Type 0) (place : ℕ) (frames : List (List Batch)) (doubt : List Batch)
    (torn : ℕ) : Type 0 where
  pub stands : OnDisk content images (λ image. Stands image place frames doubt)
  pub counted : IsCounted place frames
  pub in_doubt : IsDoubt frames doubt torn

-- the bytes open to the frames, or to the frames and one more with the batches in doubt
abbrev pub OpensToEither : List ℕ → List (List Batch) → List Batch → Type 0
OpensToEither bytes frames doubt = OpensTo bytes frames ⊎ OpensTo bytes (frames ++ doubt ∷ [])

-- the bytes open to the frames; if batches are in doubt, to the frames or to the frames and one more with those batches
abbrev pub OpensAs : List ℕ → List (List Batch) → List Batch → Type 0
OpensAs bytes frames [] = OpensTo bytes frames
OpensAs bytes frames (batch ∷ batches) = OpensToEither bytes frames (batch ∷ batches)

-- the bytes open to the history, or to the history with the batches in doubt
abbrev pub OpensEither : List ℕ → List Batch → List Batch → Type 0
OpensEither bytes history doubt = Opens bytes history ⊎ Opens bytes (history ++ doubt)
