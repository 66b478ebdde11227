-- What workers do at their fronts, each with a pass of one room.
use Rattle.std.specs.Prelude.{◌≡◌, ◌⊎◌, ℕ, Bool, true, false, Option, Some, List, [], ◌∷◌}
use Rattle.disk_model.specs.Faults.{Rose}
use Rattle.ldar_ports.specs.Front.{Connection, Finished, HasNoneLeft}
use Rattle.ldar_session.specs.Working.{HasWorked}
use Rattle.sync_room.specs.OwnCalls.{Grew}
use Rattle.sync_room.specs.Passes.{PassState, RoomId}

-- beside a room there is no disk, so there the clock is 0
abbrev pub no_clock : PassState → ℕ
no_clock pass = 0

-- the desk of a worker: its pass, which is with the worker while it works, and whether it left its front because that was closed
pub record DeskState : Type 0 where
  pub pass : Option PassState
  pub closed : Bool

-- a desk with a pass, before the work
abbrev pub desk_with : PassState → DeskState
desk_with pass = record { pass = Some pass; closed = false }

-- there is a pass at the desk, and it is of the room
pub record IsDeskOf (room : RoomId) (desk : DeskState) : Type 0 where
  pub pass : PassState
  pub there : desk.pass ≡ Some pass
  pub of_room : pass.room ≡ room

-- A worker answered the connections of a front with the pass of its desk, until the front was closed or failed.
pub record WorkedAt {L : Type 0} (left_of : L → Option (List Connection)) (done_of : L → Option (List Finished)) (faults_of : L → ℕ)
    (front front' : L) (desk desk' : DeskState) : Type 0 where
  pub old : PassState
  pub new : PassState
  pub from : desk.pass ≡ Some old
  pub to : desk'.pass ≡ Some new
  pub worked : HasWorked Grew no_clock old new (left_of front) (left_of front') (done_of front) (done_of front')
  pub closed : desk'.closed ≡ true → HasNoneLeft (left_of front') × (faults_of front' ≡ faults_of front)
  pub fault : desk'.closed ≡ false → Rose (faults_of front) (faults_of front')

-- so at each front, with the desk at its place
abbrev pub EachWorked : {L : Type 0} → (L → Option (List Connection)) → (L → Option (List Finished)) → (L → ℕ) → List L → List L
    → List DeskState → List DeskState → Type 0
EachWorked left_of done_of faults_of [] [] [] [] = Unit {0}
EachWorked left_of done_of faults_of (front ∷ fronts) (front' ∷ fronts') (desk ∷ desks) (desk' ∷ desks') =
    WorkedAt left_of done_of faults_of front front' desk desk' × EachWorked left_of done_of faults_of fronts fronts' desks desks'
EachWorked left_of done_of faults_of fronts fronts' desks desks' = ⊥

-- each front is closed, and none has failed
abbrev pub EachClosed : {L : Type 0} → (L → Option (List Connection)) → (L → ℕ) → List L → List L → Type 0
EachClosed left_of faults_of [] [] = Unit {0}
EachClosed left_of faults_of (front ∷ fronts) (front' ∷ fronts') =
    HasNoneLeft (left_of front') × (faults_of front' ≡ faults_of front) × EachClosed left_of faults_of fronts fronts'
EachClosed left_of faults_of fronts fronts' = ⊥

-- a front has failed
abbrev pub OneFailed : {L : Type 0} → (L → ℕ) → List L → List L → Type 0
OneFailed faults_of (front ∷ fronts) (front' ∷ fronts') = Rose (faults_of front) (faults_of front') ⊎ OneFailed faults_of fronts fronts'
OneFailed faults_of fronts fronts' = ⊥
