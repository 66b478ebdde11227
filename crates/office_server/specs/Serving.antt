-- What a whole service does.
use Rattle.std.specs.Prelude.{◌≡◌, ◌≤◌, ◌⊎◌, ℕ, Option, Some, None, List, [], ◌∷◌, map, IsTrue}
use Rattle.std.specs.List.{AllByRecursion}
use Rattle.disk_model.specs.Told.{Told}
use Rattle.ldar_journal.specs.Image.{Opens}
use Rattle.ldar_law.specs.Machine.{Moment}
use Rattle.ldar_law.specs.Verdicts.{is_ruly}
use Rattle.ldar_ports.specs.Front.{Connection, Finished}
use Rattle.ldar_session.specs.Working.{HasWorked, turns_served}
use Rattle.office_book.specs.declared.opening.BookWhy.{BookWhy}
use Rattle.office_book.specs.declared.opening.BookWhy.TheVariants.{Disk, NotAJournal, Damaged, Unruly, Memory}
use Rattle.office_book.specs.Opened.{IsReason}
use Rattle.office_server.specs.Fronts.{no_clock}
use Rattle.sync_room.specs.Calls.{RoomCall, IsLegal}
use Rattle.sync_room.specs.OwnCalls.{Grew, calls_of, session_turn}
use Rattle.sync_room.specs.Passes.{PassState, RoomId, new_pass}

-- What one front was served in a history: each connection that was accepted was answered in one session and handed back, in order, and the turns of
-- their requests are, in order, those of the calls of this caller. A front without a caller was served no request of the office.
pub record IsServed {L : Type 0} (left_of : L → Option (List Connection)) (done_of : L → Option (List Finished)) (room : RoomId) (log : List RoomCall)
    (front front' : L) (caller : Option ℕ) : Type 0 where
  pub pass : PassState
  pub own : pass.own ≡ caller
  pub worked : HasWorked Grew no_clock (new_pass room) pass (left_of front) (left_of front') (done_of front) (done_of front')
  pub calls : turns_served worked.visits ≡ map session_turn (calls_of caller log)

-- so each front, with the caller at its place
abbrev pub EachServed : {L : Type 0} → (L → Option (List Connection)) → (L → Option (List Finished)) → RoomId → List RoomCall → List L → List L
    → List (Option ℕ) → Type 0
EachServed left_of done_of room log [] [] [] = Unit {0}
EachServed left_of done_of room log (front ∷ fronts) (front' ∷ fronts') (caller ∷ callers) =
    IsServed left_of done_of room log front front' caller × EachServed left_of done_of room log fronts fronts' callers
EachServed left_of done_of room log fronts fronts' callers = ⊥

-- no caller is that of two fronts
abbrev pub AreOthers : Option ℕ → Option ℕ → Type 0
AreOthers caller other = (name : ℕ) → caller ≡ Some name → other ≡ Some name → ⊥

abbrev pub AllOthers : List (Option ℕ) → Type 0
AllOthers [] = Unit {0}
AllOthers (caller ∷ callers) = AllByRecursion (AreOthers caller) callers × AllOthers callers

-- There is one legal history of a room, from the moment at which it was opened, in which each front has at most one caller, and these differ.
pub record AreServed {L : Type 0} (left_of : L → Option (List Connection)) (done_of : L → Option (List Finished)) (start : Moment)
    (fronts fronts' : List L) : Type 0 where
  pub room : RoomId
  pub from : room.start ≡ start
  pub log : List RoomCall
  pub legal : IsLegal start log
  pub callers : List (Option ℕ)
  pub each : EachServed left_of done_of room log fronts fronts' callers
  pub differ : AllOthers callers

-- the moment of an office that was opened over these bytes: its history is ruly, and nothing is in doubt
pub record IsOpenedAt (content : Option (List ℕ)) (start : Moment) : Type 0 where
  pub opens : Told content (λ bytes. Opens bytes start.state.history)
  pub settled : start.state.doubt ≡ []
  pub ruly : IsTrue (is_ruly start.state.history)

-- a service of an office that was opened over these bytes, on a disk whose count of errors and clock were these
pub record HasServed {L : Type 0} (left_of : L → Option (List Connection)) (done_of : L → Option (List Finished)) (content : Option (List ℕ))
    (faults clock : ℕ) (fronts fronts' : List L) : Type 0 where
  pub start : Moment
  pub opened : IsOpenedAt content start
  pub count : faults ≤ start.faults
  pub time : clock ≤ start.clock
  pub served : AreServed left_of done_of start fronts fronts'

-- ---- exit statuses

-- the fronts were served
abbrev pub HasBegun : ℕ → Type 0
HasBegun status = (status ≡ 0) ⊎ (status ≡ 12)

-- the exit status if the office was not opened, by its reason
abbrev pub refused_as : BookWhy → ℕ
refused_as Disk = 5
refused_as NotAJournal = 7
refused_as (Damaged at) = 7
refused_as (Unruly position rule) = 7
refused_as Memory = 6

-- the bytes are no office's: no journal, damaged, or unruly
pub record HasNoOffice (content : Option (List ℕ)) : Type 0 where
  pub why : BookWhy
  pub reason : IsReason content why
  pub not_other : refused_as why ≡ 7
