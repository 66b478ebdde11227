-- The calls that a room has answered, in their one order.
use Rattle.std.specs.Prelude.{◌≡◌, ℕ, ◌+◌, ◌==◌, List, [], ◌∷◌, ◌++◌, filter}
use Rattle.ldar_law.specs.Machine.{Moment, Turn}
use Rattle.sync_room.specs.Turns.{IsOneTurn}

-- a turn, its caller, its number among the calls of this caller, from 1, and the moment of the book after it
pub record RoomCall : Type 0 where
  pub caller : ℕ
  pub number : ℕ
  pub turn : Turn
  pub end : Moment

-- each call is a turn from the moment that the call before it left
abbrev pub AreTurns : Moment → List RoomCall → Type 0
AreTurns start [] = Unit {0}
AreTurns start (call ∷ calls) = IsOneTurn start call.turn call.end × AreTurns call.end calls

-- the moment of the book after the calls
abbrev pub moment_after : Moment → List RoomCall → Moment
moment_after start [] = start
moment_after start (call ∷ calls) = moment_after call.end calls

-- the calls of one caller
abbrev pub calls_by : ℕ → List RoomCall → List RoomCall
calls_by caller calls = filter (λ call. call.caller == caller) calls

-- the numbers of the calls follow each other
abbrev pub AreNumberedFrom : ℕ → List RoomCall → Type 0
AreNumberedFrom first [] = Unit {0}
AreNumberedFrom first (call ∷ calls) = (call.number ≡ first) × AreNumberedFrom (first + 1) calls

-- from this moment the calls are one history: each is a turn after the call before it, and those of each caller are numbered from 1
pub record IsLegal (start : Moment) (calls : List RoomCall) : Type 0 where
  pub turns : AreTurns start calls
  pub numbered : (caller : ℕ) → AreNumberedFrom 1 (calls_by caller calls)

-- the calls begin with those that were seen
abbrev pub BeginsWith : List RoomCall → List RoomCall → Type 0
BeginsWith calls seen = (rest : List RoomCall) × (calls ≡ seen ++ rest)
