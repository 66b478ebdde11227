-- What a room keeps to at every moment. Word 0 is the number of tickets drawn, word 1 the number of tickets served, and the one slot has the book.
use Rattle.std.specs.Prelude.{◌≡◌, ℕ, ◌+◌, ◌<◌, ◌≤◌, ◌^◌, ◌==◌, ◌⊎◌, Option, Some, None, List, [], ◌∷◌, ◌++◌, length, Contains, MatchBool}
use mathlib.Core.Option.{Option as Place, some, none}
use lib.ListN.{get_elem?}
use Rattle.atomic_table.specs.Table.{State, Me, Step}
use Rattle.ldar_law.specs.declared.reply.Reply.{Reply}
use Rattle.ldar_law.specs.declared.request.Request.{Request}
use Rattle.ldar_law.specs.Machine.{Moment}
use Rattle.sync_room.specs.Calls.{RoomCall, IsLegal, BeginsWith, moment_after, calls_by}

-- ---- what a seat knows

-- what a seat is doing: nothing; waiting with a ticket; asking the book, with the ticket; keeping the call that it made, with the ticket; or it was
-- joined to another seat
pub data Stage : Type 0 where
  idle : Stage
  waits : ℕ → Stage
  works : ℕ → Stage
  keeps : ℕ → RoomCall → Stage
  spent : Stage

-- Where the history of the room begins; the calls that were seen; the callers for which the seat answers; its own caller; how many tickets it knows to
-- be drawn; what it is doing. The last two are what a seat had seen that was joined to this one, and its callers, until this one looks again.
pub record SeatView : Type 0 where
  pub start : Moment
  pub seen : List RoomCall
  pub names : List ℕ
  pub own : Option ℕ
  pub drawn : ℕ
  pub stage : Stage
  pub joined_seen : List RoomCall
  pub joined_names : List ℕ

abbrev pub seat_view : Moment → List RoomCall → List ℕ → Option ℕ → ℕ → Stage → SeatView
seat_view start seen names own drawn stage =
    record { start = start; seen = seen; names = names; own = own; drawn = drawn; stage = stage; joined_seen = []; joined_names = [] }

-- the first seat of a room
abbrev pub newcomer : Moment → SeatView
newcomer start = seat_view start [] [] None 0 idle

-- a seat that was joined to another
abbrev pub nobody : SeatView
nobody = seat_view (record { state = record { history = []; doubt = [] }; faults = 0; clock = 0 }) [] [] None 0 spent

abbrev pub all_names : SeatView → List ℕ
all_names v = v.names ++ v.joined_names

-- ---- the rule

-- the history begins with the calls that were seen, and has no other calls of these callers
pub record KnowsCallers (log : List RoomCall) (names : List ℕ) (seen : List RoomCall) : Type 0 where
  pub begins : BeginsWith log seen
  pub whole : (name : ℕ) → Contains names name → calls_by name log ≡ calls_by name seen

-- a seat at this stage has this ticket, which is not served
abbrev pub HasTicket : Stage → ℕ → Type 0
HasTicket idle ticket = ⊥
HasTicket (waits t) ticket = t ≡ ticket
HasTicket (works t) ticket = t ≡ ticket
HasTicket (keeps t call) ticket = t ≡ ticket
HasTicket spent ticket = ⊥

-- how many tickets that are not served it has
abbrev pub tickets_of : Stage → ℕ
tickets_of idle = 0
tickets_of (waits t) = 1
tickets_of (works t) = 1
tickets_of (keeps t call) = 1
tickets_of spent = 0

-- how many seats have a ticket that is not served
abbrev pub waiting : List SeatView → ℕ
waiting [] = 0
waiting (v ∷ views) = tickets_of v.stage + waiting views

-- a seat at this stage has the book
abbrev pub HasBook : Stage → Type 0
HasBook idle = ⊥
HasBook (waits t) = ⊥
HasBook (works t) = Unit {0}
HasBook (keeps t call) = Unit {0}
HasBook spent = ⊥

-- a call that was made and is not in the history yet: its caller is the seat's own, and the history with it is legal
pub record MayFollow (start : Moment) (v : SeatView) (log : List RoomCall) (call : RoomCall) : Type 0 where
  pub own : v.own ≡ Some call.caller
  pub legal : IsLegal start (log ++ call ∷ [])

-- a seat that has the book has the ticket that is served next, and has seen the whole history
pub record IsServed (start : Moment) (log : List RoomCall) (v : SeatView) (ticket : ℕ) : Type 0 where
  pub of_room : v.start ≡ start
  pub next : ticket ≡ length log
  pub whole : v.seen ≡ log

abbrev pub IsStage : Moment → List RoomCall → SeatView → Stage → Type 0
IsStage start log v idle = v.start ≡ start
IsStage start log v (waits t) = v.start ≡ start
IsStage start log v (works t) = IsServed start log v t
IsStage start log v (keeps t call) = IsServed start log v t × MayFollow start v log call
IsStage start log v spent = Unit {0}

-- what one view keeps to, with this history from this start and this number of tickets drawn
pub record FitsRoom (start : Moment) (log : List RoomCall) (drawn : ℕ) (v : SeatView) : Type 0 where
  pub knows : KnowsCallers log v.names v.seen
  pub of_joined : KnowsCallers log v.joined_names v.joined_seen
  pub own : (name : ℕ) → v.own ≡ Some name → Contains v.names name
  pub apart : (name : ℕ) → Contains v.names name → Contains v.joined_names name → ⊥
  pub below : (name : ℕ) → Contains (all_names v) name → name < drawn
  pub counted : v.drawn ≤ drawn
  pub ticket : (t : ℕ) → HasTicket v.stage t → (length log ≤ t) × (t < drawn)
  pub stage : IsStage start log v v.stage

-- two views have no ticket and no caller in common
pub record SeatsDiffer (v w : SeatView) : Type 0 where
  pub tickets : (t : ℕ) → HasTicket v.stage t → HasTicket w.stage t → ⊥
  pub names : (name : ℕ) → Contains (all_names v) name → Contains (all_names w) name → ⊥

-- the book is in its slot: its moment is that after the history, and a crash leaves what it has
pub record IsInSlot {B : Type 0} (moment_at : B → Moment) (is_durable : B → Type 0) (start : Moment) (log : List RoomCall) (homes : List (Place (Option B))) : Type 0 where
  pub book : B
  pub there : homes ≡ some (Some book) ∷ []
  pub moment : moment_at book ≡ moment_after start log
  pub durable : is_durable book

-- the book is with a seat, as its stage shows
pub record IsWithSeat {B : Type 0} (homes : List (Place (Option B))) (views : List SeatView) : Type 0 where
  pub out : homes ≡ none ∷ []
  pub seat : ℕ
  pub view : SeatView
  pub there : get_elem? views seat ≡ some view
  pub has : HasBook view.stage

abbrev pub InSlotOrWithSeat : {B : Type 0} → (B → Moment) → (B → Type 0) → Moment → List RoomCall → List (Place (Option B)) → List SeatView → Type 0
InSlotOrWithSeat moment_at is_durable start log homes views = IsInSlot moment_at is_durable start log homes ⊎ IsWithSeat homes views

-- The rule. Word 1 is the length of one legal history; word 0 less word 1 is the number of seats with a ticket that is not served; callers are named by
-- tickets that were drawn; each view keeps to the history, and views differ; and the book is in its slot unless a seat has it.
pub record IsRoom {B : Type 0} (moment_at : B → Moment) (is_durable : B → Type 0) (start : Moment) (s : State (Option B) SeatView) : Type 0 where
  pub log : List RoomCall
  pub drawn : ℕ
  pub words : s.words ≡ drawn ∷ length log ∷ []
  pub bounded : drawn < 2 ^ 64
  pub served : length log ≤ drawn
  pub wait : length log + waiting s.views ≡ drawn
  pub legal : IsLegal start log
  pub fresh : (name : ℕ) → drawn ≤ name → calls_by name log ≡ []
  pub fits : (i : ℕ) (v : SeatView) → get_elem? s.views i ≡ some v → FitsRoom start log drawn v
  pub differ : (i j : ℕ) (v w : SeatView) → get_elem? s.views i ≡ some v → get_elem? s.views j ≡ some w → ¬ (i ≡ j) → SeatsDiffer v w
  pub home : InSlotOrWithSeat moment_at is_durable start log s.homes s.views

-- ---- what each kind of step shows

-- the caller of the call that gets this ticket: the seat's own caller, or a new one, named by the ticket
abbrev pub caller_at : Option ℕ → ℕ → ℕ
caller_at None ticket = ticket
caller_at (Some name) ticket = name

abbrev pub names_at : List ℕ → Option ℕ → ℕ → List ℕ
names_at names None ticket = names ++ ticket ∷ []
names_at names (Some name) ticket = names

-- the view of a seat that drew this ticket
abbrev pub after_draw : SeatView → ℕ → SeatView
after_draw v ticket = seat_view v.start v.seen (names_at v.names v.own ticket) (Some (caller_at v.own ticket)) (ticket + 1) (waits ticket)

-- the view of a seat that found that this many tickets were drawn
abbrev pub after_count : SeatView → ℕ → SeatView
after_count v drawn = record {
  start = v.start;
  seen = v.seen;
  names = v.names;
  own = v.own;
  drawn = drawn;
  stage = v.stage;
  joined_seen = v.joined_seen;
  joined_names = v.joined_names;
}

-- The number was drawn, or another was found, which is that of the tickets drawn. What was found is not below the number of calls seen, nor below the
-- number of tickets that were known to be drawn, and no caller of the calls seen.
abbrev pub Draws : {S : Type 0} → Step S → Me S SeatView → ℕ → Me S SeatView → Type 0
Draws step me found new =
    MatchBool (found == step.first) (new ≡ (after_draw me.0 found, me.1)) (new ≡ (after_count me.0 found, me.1))
    × (length me.0.seen ≤ found)
    × (calls_by found me.0.seen ≡ [])
    × (me.0.drawn ≤ found)

-- the history so far was seen, which has this length
pub record Looks (v : SeatView) (found : ℕ) (w : SeatView) : Type 0 where
  pub start : w.start ≡ v.start
  pub legal : IsLegal v.start w.seen
  pub length_is : length w.seen ≡ found
  pub names : w.names ≡ all_names v
  pub own : w.own ≡ v.own
  pub drawn : (w.drawn ≡ v.drawn) × (v.drawn < 2 ^ 64)
  pub none_joined : (w.joined_seen ≡ []) × (w.joined_names ≡ [])
  pub knows : KnowsCallers w.seen v.names v.seen
  pub of_joined : KnowsCallers w.seen v.joined_names v.joined_seen
  pub apart : (name : ℕ) → Contains v.names name → Contains v.joined_names name → ⊥
  pub named : (name : ℕ) → w.own ≡ Some name → Contains w.names name

-- a look of a seat that waits for nothing
pub record LooksIdle {S : Type 0} (me : Me S SeatView) (found : ℕ) (new : Me S SeatView) : Type 0 where
  pub looks : Looks me.0 found new.0
  pub idle : new.0.stage ≡ idle
  pub slots : new.1 ≡ me.1

-- the book was taken, as the history leaves it
pub record TakesBook {B : Type 0} (moment_at : B → Moment) (ticket : ℕ) (new : Me (Option B) SeatView) : Type 0 where
  pub stage : new.0.stage ≡ works ticket
  pub book : B
  pub slots : new.1 ≡ (0, Some book) ∷ []
  pub moment : moment_at book ≡ moment_after new.0.start new.0.seen

-- a look of a seat that waits with this ticket: the ticket is served and the book was taken, or the seat waits on
abbrev pub LooksFor : {B : Type 0} → (B → Moment) → ℕ → Me (Option B) SeatView → ℕ → Me (Option B) SeatView → Type 0
LooksFor moment_at ticket me found new =
    Looks me.0 found new.0 × MatchBool (found == ticket) (TakesBook moment_at ticket new) ((new.0.stage ≡ waits ticket) × (new.1 ≡ me.1))

-- the same, whatever the ticket is
abbrev pub LooksServed : {B : Type 0} → (B → Moment) → Me (Option B) SeatView → ℕ → Me (Option B) SeatView → Type 0
LooksServed moment_at me found new = (ticket : ℕ) → me.0.stage ≡ waits ticket → LooksFor moment_at ticket me found new

-- the view after a look at this history
abbrev pub after_look : SeatView → List RoomCall → Stage → SeatView
after_look v log stage = seat_view v.start log (all_names v) v.own v.drawn stage

-- the view that keeps this call
abbrev pub after_keep : SeatView → ℕ → RoomCall → SeatView
after_keep v ticket call = seat_view v.start v.seen v.names v.own v.drawn (keeps ticket call)

-- a call with this request, this reply and this moment after it, which may come next in the history that was seen
pub record IsCall (request : Request) (reply : Reply) (after : Moment) (v : SeatView) (call : RoomCall) : Type 0 where
  pub asked : call.turn.request ≡ request
  pub answered : call.turn.reply ≡ reply
  pub end : call.end ≡ after
  pub next : MayFollow v.start v v.seen call

-- a seat that has the book with this ticket keeps a call that was made
pub record KeepsCall {S : Type 0} (request : Request) (reply : Reply) (after : Moment) (ticket : ℕ) (me new : Me S SeatView) : Type 0 where
  pub call : RoomCall
  pub is : IsCall request reply after me.0 call
  pub new_is : new ≡ (after_keep me.0 ticket call, me.1)

-- the same, whatever the ticket is
abbrev pub KeepsCallServed : {S : Type 0} → Request → Reply → Moment → Me S SeatView → ℕ → Me S SeatView → Type 0
KeepsCallServed request reply after me found new = (ticket : ℕ) → me.0.stage ≡ works ticket → KeepsCall request reply after ticket me new

-- the view once the call that it kept is the last of the history
abbrev pub after_advance : SeatView → RoomCall → SeatView
after_advance v call = seat_view v.start (v.seen ++ call ∷ []) v.names v.own v.drawn idle

abbrev pub Advances : {S : Type 0} → Me S SeatView → ℕ → Me S SeatView → Type 0
Advances me found new = (ticket : ℕ) (call : RoomCall) → me.0.stage ≡ keeps ticket call → new ≡ (after_advance me.0 call, [])

-- a new seat, which has seen as much and answers for no caller
abbrev pub split_view : SeatView → SeatView
split_view v = seat_view v.start v.seen [] None v.drawn idle

-- a seat that takes over what another has seen, and its callers
abbrev pub joined_view : SeatView → SeatView → SeatView
joined_view v w = record {
  start = v.start;
  seen = v.seen;
  names = v.names;
  own = v.own;
  drawn = v.drawn;
  stage = v.stage;
  joined_seen = w.seen;
  joined_names = w.names;
}

-- ---- how a view goes on while its seat waits

-- a later view of a seat: it has seen more, with no other calls of its callers
pub record SeesMore (v w : SeatView) : Type 0 where
  pub start : w.start ≡ v.start
  pub names : w.names ≡ v.names
  pub own : w.own ≡ v.own
  pub drawn : v.drawn ≤ w.drawn
  pub none_joined : (w.joined_seen ≡ []) × (w.joined_names ≡ [])
  pub knows : KnowsCallers w.seen v.names v.seen

-- the ticket is served
pub record HasTurn {B : Type 0} (moment_at : B → Moment) (ticket : ℕ) (v : SeatView) (new : Me (Option B) SeatView) : Type 0 where
  pub follows : SeesMore v new.0
  pub legal : IsLegal new.0.start new.0.seen
  pub named : (name : ℕ) → new.0.own ≡ Some name → Contains new.0.names name
  pub takes : TakesBook moment_at ticket new

-- no call can come after those that were seen: the ticket that is served next is this seat's, or no ticket is left
abbrev pub SeesLast : SeatView → Type 0
SeesLast v = (v.stage ≡ waits (length v.seen)) ⊎ ((v.stage ≡ idle) × (2 ^ 64 ≤ length v.seen + 1))

-- A later view of a seat, after which no call can come. Each ticket that was known to be drawn is served.
pub record DrawsLast (v w : SeatView) : Type 0 where
  pub start : w.start ≡ v.start
  pub begins : BeginsWith w.seen v.seen
  pub legal : IsLegal w.start w.seen
  pub served : v.drawn ≤ length w.seen
  pub last : SeesLast w
