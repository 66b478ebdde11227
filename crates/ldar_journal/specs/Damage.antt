-- Why the bytes of a file do not open to a history.
use Rattle.std.specs.Prelude.{◌≡◌, ◌⊎◌, ℕ, ◌≤◌, List, ◌++◌, length, take, drop, slice_index}
use Rattle.fact_kinds.specs.declared.batch.Batch.{Batch}
use Rattle.ldar_journal.specs.declared.opening.OpenWhy.{OpenWhy}
use Rattle.ldar_journal.specs.declared.opening.OpenWhy.TheVariants.{Disk, NotAJournal, Damaged, Memory}
use Rattle.ldar_journal.specs.Image.{frame, batches_of, IsFrame, IsFront, IsKept}

-- an open frame of these batches is at the place and may be kept after this history
pub record IsNextFrame (image : List ℕ) (place : ℕ) (history batches : List Batch) : Type 0 where
  pub is : IsFrame batches
  pub rest : List ℕ
  pub stands : drop place image ≡ frame batches ++ rest
  pub kept : IsKept (history ++ batches)

-- The first bad frame has its gate at this place: good frames are before it, and none is here. If no frame is bad, the place is the end of
-- the image, where a gate is missing.
pub record IsDamagedAt (image : List ℕ) (place : ℕ) : Type 0 where
  pub frames : List (List Batch)
  pub within : place ≤ length image
  pub front : IsFront (take place image) frames
  pub kept : IsKept (batches_of frames)
  pub open_gate : (place ≡ length image) ⊎ (slice_index image place ≡ 1)
  pub bad : (batches : List Batch) → ¬ (IsNextFrame image place (batches_of frames) batches)

-- a property for one reason
abbrev pub OnNotAJournal : Type 0 → OpenWhy → Type 0
OnNotAJournal P Disk = Unit {0}
OnNotAJournal P NotAJournal = P
OnNotAJournal P (Damaged at) = Unit {0}
OnNotAJournal P Memory = Unit {0}

-- a property of the place of the damage
abbrev pub IfDamaged : (ℕ → Type 0) → OpenWhy → Type 0
IfDamaged P Disk = Unit {0}
IfDamaged P NotAJournal = Unit {0}
IfDamaged P (Damaged at) = P at
IfDamaged P Memory = Unit {0}
