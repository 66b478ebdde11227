-- The passes of several desks, and the one pass in which they met.
use Rattle.std.specs.Prelude.{◌≡◌, ℕ, Option, Some, List, [], ◌∷◌, Contains}
use Rattle.std.specs.List.{AllByRecursion}
use Rattle.office_server.specs.Fronts.{DeskState}
use Rattle.sync_room.specs.Calls.{IsLegal, calls_by}
use Rattle.sync_room.specs.Passes.{PassState, RoomId}

-- the desk has a pass, whose own caller this is
pub record IsOwner (desk : DeskState) (name : ℕ) : Type 0 where
  pub pass : PassState
  pub there : desk.pass ≡ Some pass
  pub own : pass.own ≡ Some name

-- the desk has a pass of the room, whose own caller is one of those for which it answers
pub record HasOwn (room : RoomId) (desk : DeskState) : Type 0 where
  pub pass : PassState
  pub there : desk.pass ≡ Some pass
  pub of_room : pass.room ≡ room
  pub named : (name : ℕ) → pass.own ≡ Some name → Contains pass.names name

-- a pass answers for the caller of the one at this desk, and has seen the calls of it that this one has seen
pub record Has (whole : PassState) (desk : DeskState) : Type 0 where
  pub pass : PassState
  pub there : desk.pass ≡ Some pass
  pub named : (name : ℕ) → pass.own ≡ Some name → Contains whole.names name
  pub calls : (name : ℕ) → pass.own ≡ Some name → calls_by name whole.seen ≡ calls_by name pass.seen

-- no caller is that of both
abbrev pub HaveOthers : DeskState → DeskState → Type 0
HaveOthers desk other = (name : ℕ) → IsOwner desk name → IsOwner other name → ⊥

abbrev pub AllHaveOthers : List DeskState → Type 0
AllHaveOthers [] = Unit {0}
AllHaveOthers (desk ∷ desks) = AllByRecursion (HaveOthers desk) desks × AllHaveOthers desks

-- the passes of these desks met in one
pub record Together (room : RoomId) (whole : PassState) (desks : List DeskState) : Type 0 where
  pub of_room : whole.room ≡ room
  pub has : AllByRecursion (Has whole) desks
  pub differ : AllHaveOthers desks
  pub legal : IsLegal room.start whole.seen
