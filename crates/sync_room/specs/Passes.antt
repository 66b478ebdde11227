-- What a pass of a room means, and what the calls of a room do to passes.
use Rattle.std.specs.Prelude.{◌≡◌, ◌≤◌, ℕ, Option, Some, None, List, [], ◌∷◌, ◌++◌, length, Contains}
use Rattle.atomic_table.specs.Seated.{TableId}
use Rattle.ldar_law.specs.declared.reply.Reply.{Reply}
use Rattle.ldar_law.specs.declared.request.Request.{Request}
use Rattle.ldar_law.specs.Machine.{Moment}
use Rattle.sync_room.specs.Calls.{RoomCall, IsLegal, BeginsWith, moment_after, calls_by}
use Rattle.sync_room.specs.Rule.{SeatView, idle, nobody, names_at}

-- a room: its table, and the moment of the book with which it was opened
pub record RoomId : Type 0 where
  pub table : TableId
  pub start : Moment

-- A pass: its room; the calls that were seen, each by a ticket that was served; the callers for which it answers; its own caller, which is none before
-- its first call; and how many tickets it knows to be drawn.
pub record PassState : Type 0 where
  pub room : RoomId
  pub seen : List RoomCall
  pub names : List ℕ
  pub own : Option ℕ
  pub drawn : ℕ

abbrev pub pass_at : TableId → SeatView → PassState
pass_at table v = record { room = record { table = table; start = v.start }; seen = v.seen; names = v.names; own = v.own; drawn = v.drawn }

-- the pass of a list of views, which has one
abbrev pub pass_of : TableId → List SeatView → PassState
pass_of table [] = pass_at table nobody
pass_of table (v ∷ views) = pass_at table v

-- a seat that is doing nothing, and has looked since another was joined to it
pub record IsFree (v : SeatView) : Type 0 where
  pub free : v.stage ≡ idle
  pub none_joined : (v.joined_seen ≡ []) × (v.joined_names ≡ [])

pub record HasOneView (views : List SeatView) : Type 0 where
  pub view : SeatView
  pub one : views ≡ view ∷ []
  pub free : IsFree view

-- ---- what a call of a room does

-- A request was answered in a call of the pass's caller. What is seen afterwards begins with what was seen before, is legal, and ends with this call.
-- Of the callers for which the pass then answers, it has the calls that were seen before, and this one. A new caller had made no call.
pub record Asked (old : PassState) (request : Request) (reply : Reply) (new : PassState) : Type 0 where
  pub call : RoomCall
  pub between : List RoomCall
  pub asked : call.turn.request ≡ request
  pub answered : call.turn.reply ≡ reply
  pub room : new.room ≡ old.room
  pub seen : new.seen ≡ (old.seen ++ between) ++ call ∷ []
  pub legal : IsLegal new.room.start new.seen
  pub own : new.own ≡ Some call.caller
  pub same_own : (name : ℕ) → old.own ≡ Some name → call.caller ≡ name
  pub names : new.names ≡ names_at old.names old.own call.caller
  pub named : Contains new.names call.caller
  pub fresh : old.own ≡ None → calls_by call.caller old.seen ≡ []
  pub whole : (name : ℕ) → Contains new.names name → calls_by name new.seen ≡ calls_by name old.seen ++ calls_by name (call ∷ [])

-- Two passes met. What is seen begins with what each has seen, and is legal. Of their callers, which differ, it has the calls that the two had seen.
pub record Met (first second new : PassState) : Type 0 where
  pub room : new.room ≡ first.room
  pub begins_first : BeginsWith new.seen first.seen
  pub begins_second : BeginsWith new.seen second.seen
  pub legal : IsLegal new.room.start new.seen
  pub own : new.own ≡ first.own
  pub names : new.names ≡ first.names ++ second.names
  pub apart : (name : ℕ) → Contains first.names name → Contains second.names name → ⊥
  pub whole_first : (name : ℕ) → Contains first.names name → calls_by name new.seen ≡ calls_by name first.seen
  pub whole_second : (name : ℕ) → Contains second.names name → calls_by name new.seen ≡ calls_by name second.seen

-- a pass that has seen as much, and answers for no caller
abbrev pub split_pass : PassState → PassState
split_pass old = record { room = old.room; seen = old.seen; names = []; own = None; drawn = old.drawn }

-- a pass that has seen no call
abbrev pub new_pass : RoomId → PassState
new_pass room = record { room = room; seen = []; names = []; own = None; drawn = 0 }

-- The moment after a legal history that begins with what was seen. Each ticket that the pass knew to be drawn was served.
pub record EndsAtMoment (old : PassState) (end : Moment) : Type 0 where
  pub log : List RoomCall
  pub begins : BeginsWith log old.seen
  pub legal : IsLegal old.room.start log
  pub served : old.drawn ≤ length log
  pub is : end ≡ moment_after old.room.start log

-- more was seen, with no other calls of the pass's callers
pub record SawMore (old new : PassState) : Type 0 where
  pub room : new.room ≡ old.room
  pub begins : BeginsWith new.seen old.seen
  pub names : new.names ≡ old.names
  pub own : new.own ≡ old.own
  pub drawn : old.drawn ≤ new.drawn
  pub whole : (name : ℕ) → Contains new.names name → calls_by name new.seen ≡ calls_by name old.seen
