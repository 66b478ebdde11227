-- How the own calls of a pass grow, as an office of its own.
use Rattle.std.specs.Prelude.{◌≡◌, ◌⊎◌, ℕ, Option, Some, None, List, [], ◌∷◌, ◌++◌, map, Contains}
use Rattle.std.specs.List.{flat_map, AllByRecursion}
use Rattle.ldar_law.specs.declared.reply.Reply.{Reply}
use Rattle.ldar_law.specs.declared.request.Request.{Request}
use Rattle.ldar_law.specs.Machine.{Call, Turn}
use Rattle.office_interface.specs.Asking.{HasRule}
use Rattle.sync_room.specs.Calls.{RoomCall, BeginsWith, calls_by}
use Rattle.sync_room.specs.Passes.{PassState, RoomId}

-- the calls of a caller, if there is one
abbrev pub calls_of : Option ℕ → List RoomCall → List RoomCall
calls_of None log = []
calls_of (Some name) log = calls_by name log

-- the calls of a pass's own caller, as far as they were seen
abbrev pub own_calls : PassState → List RoomCall
own_calls pass = calls_of pass.own pass.seen

-- the turn of a call as a session over the room shows it: beside a room there is no disk, so the clock is 0
abbrev pub session_turn : RoomCall → Turn
session_turn call = record {
  request = call.turn.request;
  reply = call.turn.reply;
  found = call.turn.found;
  in_doubt = call.turn.in_doubt;
  before = call.turn.before;
  after = call.turn.after;
  clock = 0;
}

-- a pass that asked: it has a caller, for which it answers, and had no other
pub record HasAsked (old new : PassState) : Type 0 where
  pub name : ℕ
  pub own : new.own ≡ Some name
  pub named : Contains new.names name
  pub before : (old.own ≡ None) ⊎ (old.own ≡ Some name)

-- More was seen, and the own calls of the pass grew by calls with just these turns. A pass that made no call is as it was.
pub record Grew (old : PassState) (calls : List Call) (new : PassState) : Type 0 where
  pub made : List RoomCall
  pub turns : flat_map (λ call. call.turns) calls ≡ map session_turn made
  pub room : new.room ≡ old.room
  pub begins : BeginsWith new.seen old.seen
  pub own : own_calls new ≡ own_calls old ++ made
  pub how : ((new ≡ old) × (made ≡ [])) ⊎ HasAsked old new

-- there is a pass, and it is of the room
pub record IsSeated (room : RoomId) (pass : Option PassState) : Type 0 where
  pub state : PassState
  pub there : pass ≡ Some state
  pub of_room : state.room ≡ room

-- calls with these turns, which returned at the clock 0
abbrev pub timeless : List Turn → Call
timeless turns = record { turns = turns; end = record { state = record { history = []; doubt = [] }; faults = 0; clock = 0 } }

-- A pass was asked these requests: one call has them, and the replies that were appended to those that were there.
pub record AskedAll (old : PassState) (requests : List Request) (before replies : List Reply) (new : PassState) : Type 0 where
  pub turns : List Turn
  pub grew : Grew old (timeless turns ∷ []) new
  pub asked : map (λ turn. turn.request) turns ≡ requests
  pub answered : replies ≡ before ++ map (λ turn. turn.reply) turns
  pub ruled : AllByRecursion HasRule (map (λ turn. turn.reply) turns)
