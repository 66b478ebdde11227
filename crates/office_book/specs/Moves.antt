-- The effect of a part of a call on a journal and its disk.
use Rattle.std.specs.Prelude.{ℕ, ◌+◌, ◌≤◌, ◌⊎◌, Option, List}
use Rattle.disk_model.specs.Keeps.{Keeps}
use Rattle.disk_model.specs.Told.{Told, BothTold}
use Rattle.ldar_journal.specs.Crash.{LeavesOnly, OnDisk}
use Rattle.ldar_journal.specs.Shelf.{Shelf}
use Rattle.office_book.specs.Safe.{StandsIn, state_of, frames_written}

-- From a journal to its later value: its disk keeps what every call keeps, at most this many frames were written, a crash at any moment
-- left the state before or the state after, and a crash now leaves the state after.
pub record Moves {D : Type 0} (content_of : D → Option (List ℕ)) (images_of : D → List ℕ → Type 0) (left_of : D → ℕ → List ℕ → Type 0)
    (clock_of name_of faults_of : D → ℕ) (old new : Shelf D) (written : ℕ) : Type 0 where
  pub keeps : Keeps clock_of name_of faults_of old.disk new.disk
  pub tells : BothTold (content_of old.disk) (content_of new.disk) (λ _ _. Unit {0})
  pub frames : frames_written new ≤ frames_written old + written
  pub leaves : LeavesOnly clock_of left_of old.disk new.disk
      (λ image. Told (content_of old.disk) (λ _. StandsIn (state_of old) image ⊎ StandsIn (state_of new) image))
  pub stands : OnDisk (content_of new.disk) (images_of new.disk) (StandsIn (state_of new))
