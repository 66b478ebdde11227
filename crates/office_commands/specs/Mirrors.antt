-- Taking the answers of another office as a mirror: the run, and what a crash at any moment leaves of it.
use Rattle.std.specs.Prelude.{◌≡◌, ◌≤◌, ℕ, Option, List, length, IsTrue}
use Rattle.disk_model.specs.Told.{Told}
use Rattle.fact_kinds.specs.declared.batch.Batch.{Batch}
use Rattle.fact_kinds.specs.Identity.{identities_differ}
use Rattle.ldar_law.specs.Verdicts.{is_ruly}
use Rattle.ldar_session.specs.Served.{Served}
use Rattle.office_mirror.specs.declared.ended.MirrorEnded.{MirrorEnded}
use Rattle.office_mirror.specs.declared.ended.MirrorEnded.TheVariants as ends
use Rattle.office_mirror.specs.MirrorEnds.{EndsMirror}
use Rattle.office_mirror.specs.MirrorRun.{Take, IsOfAnswer, AreTakes, AllFrom, AllMirror, served_of}
use Rattle.office_mirror.specs.Fronts.{IsFrontOf, HoldsFront}
use Rattle.office_commands.specs.declared.status.Status.{Status}
use Rattle.office_commands.specs.declared.status.Status.TheVariants.{Stranger}
use Rattle.office_commands.specs.Connection.{IsConnection}
use Rattle.office_commands.specs.Scene.{SeenDisk, Streams}
use Rattle.office_commands.specs.Statuses.{status_of}

-- the answers that were taken, how it ended, and the batches that the opened journal held, and those at the end
pub record MirrorRun : Type 0 where
  pub ended : MirrorEnded
  pub takes : List Take
  pub before : List Batch
  pub after : List Batch

-- what was served are these answers, which lead from the one history to the other, and it ended so
abbrev pub ClosesMirror : MirrorRun → List Served → List ℕ → Option (List ℕ) → List ℕ → Type 0
ClosesMirror run served rest left unsaid =
    (served ≡ served_of run.takes) × AreTakes run.before run.takes run.after × EndsMirror run.ended run.takes rest left unsaid

-- the status of a mirror, from how taking its answers ended
abbrev pub status_mirrored : MirrorEnded → Status
status_mirrored (ends.Ended ended) = status_of ended
status_mirrored (ends.Stranger index) = Stranger index

-- Each image that a crash at any moment may leave opens to a front of this history. An image left since the opening has at least the batches
-- of the opened journal.
pub record LeavesFronts (all : List Batch) (run : MirrorRun) (old new : SeenDisk) (opening : ℕ) : Type 0 where
  pub any_moment : (image : List ℕ) → new.left old.clock image → HoldsFront all 0 image
  pub since : (image : List ℕ) → new.left opening image → HoldsFront all (length run.before) image

-- A mirror of this history stays one: no answer has a stranger's batch, each line `mirrored` counts at least the batches up to the end of its
-- answer, the batches at the end are a front, with all that were held before, and so is what a crash leaves.
pub record StaysMirror (all : List Batch) (run : MirrorRun) (old new : SeenDisk) (opening : ℕ) : Type 0 where
  pub told : AllMirror run.takes
  pub kept : IsFrontOf all run.after
  pub grows : length run.before ≤ length run.after
  pub images : Told old.content (λ _. LeavesFronts all run old new opening)

-- The answers of the input were taken in the office over the journal. For any ruly history whose identities differ: if each answer that was read
-- has its batches, and the opened history and that of each image at entry are fronts of it, the mirror stays one.
pub record IsMirrored (status : Status) (old new : Streams) (disk disk' : SeenDisk) : Type 0 where
  pub run : MirrorRun
  pub tells : status ≡ status_mirrored run.ended
  pub connection : IsConnection IsOfAnswer ClosesMirror run old new disk disk'
  pub begins : connection.history ≡ run.before
  pub ends : connection.last.state.history ≡ run.after
  pub mirrors : (all : List Batch) → IsTrue (is_ruly all) → IsTrue (identities_differ all) → AllFrom all run.takes → IsFrontOf all run.before
      → ((image : List ℕ) → disk.images image → HoldsFront all 0 image) → StaysMirror all run disk disk' connection.opening.clock
