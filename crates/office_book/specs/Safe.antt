-- What an office over a journal's disk does in a run of calls, and what a crash at any moment leaves of it.
use Rattle.std.specs.Prelude.{◌≡◌, ℕ, ◌+◌, ◌≤◌, ◌⊎◌, Option, List, [], ◌∷◌, length, min}
use Rattle.disk_model.specs.Told.{Told, BothTold}
use Rattle.ldar_journal.specs.Crash.{LeavesOnly}
use Rattle.ldar_journal.specs.Image.{batches_of}
use Rattle.ldar_journal.specs.Shelf.{Shelf, OpensEither}
use Rattle.ldar_law.specs.Machine.{State, Moment, Call, Runs}

-- the office's state: the batches of its journal in order, and those of a frame in doubt
abbrev pub state_of : {D : Type 0} → Shelf D → State
state_of shelf = record { history = batches_of shelf.frames; doubt = shelf.doubt }

-- the office's state, with its disk's count of errors and its clock
abbrev pub moment_of : {D : Type 0} (clock_of faults_of : D → ℕ) → Shelf D → Moment
moment_of clock_of faults_of shelf = record { state = state_of shelf; faults = faults_of shelf.disk; clock = clock_of shelf.disk }

-- the number of frames written, including a frame in doubt
abbrev pub frames_written : {D : Type 0} → Shelf D → ℕ
frames_written shelf = length shelf.frames + min (length shelf.doubt) 1

-- ---- what a crash leaves

-- the image opens to the history of a state, with or without the batches in doubt
abbrev pub StandsIn : State → List ℕ → Type 0
StandsIn state image = OpensEither image state.history state.doubt

-- the image opens in the initial state of a run, or in the state after one of its calls
abbrev pub StandsInRun : State → List Call → List ℕ → Type 0
StandsInRun state [] image = StandsIn state image
StandsInRun state (call ∷ calls) image = StandsIn state image ⊎ StandsInRun call.end.state calls image

-- each image left since a call returned opens in the state after this call or after a later one
abbrev pub AreBehind : (ℕ → List ℕ → Type 0) → List Call → Type 0
AreBehind left [] = Unit {0}
AreBehind left (call ∷ calls) = ((image : List ℕ) → left call.end.clock image → StandsInRun call.end.state calls image) × AreBehind left calls

-- A crash at any moment of a run leaves one of the run's states, and after a call has returned, none before it. For any clock to count
-- from, an image was possible before the run, or opens in one of its states. So runs can be joined.
pub record IsSafe {D : Type 0} (clock_of : D → ℕ) (left_of : D → ℕ → List ℕ → Type 0) (old : Shelf D) (calls : List Call) (new : Shelf D) : Type 0 where
  pub since : LeavesOnly clock_of left_of old.disk new.disk (StandsInRun (state_of old) calls)
  pub behind : AreBehind (left_of new.disk) calls

-- ---- a run of calls

-- These calls lead from an office to its later value: each is a step of the machine, on the same disk, and writes at most one frame. If the
-- disk exposes its bytes, the calls are safe.
pub record Leads {D : Type 0} (content_of : D → Option (List ℕ)) (left_of : D → ℕ → List ℕ → Type 0) (clock_of name_of faults_of : D → ℕ)
    (old : Shelf D) (calls : List Call) (new : Shelf D) : Type 0 where
  pub runs : Runs (moment_of clock_of faults_of old) calls (moment_of clock_of faults_of new)
  pub name : name_of new.disk ≡ name_of old.disk
  pub tells : BothTold (content_of old.disk) (content_of new.disk) (λ _ _. Unit {0})
  pub frames : frames_written new ≤ frames_written old + length calls
  pub safe : Told (content_of old.disk) (λ _. IsSafe clock_of left_of old calls new)
