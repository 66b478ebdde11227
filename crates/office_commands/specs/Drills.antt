-- A drill: what is asked of a new office, what is printed of it, and what a crash leaves.
use Rattle.std.specs.Prelude.{◌≡◌, ◌≤◌, ◌⊎◌, ℕ, Option, Some, None, List, [], ◌∷◌, ◌++◌, length, codes}
use Rattle.std.specs.Fmt.{decimal}
use Rattle.std.specs.List.{flat_map, AllByRecursion}
use Rattle.disk_model.specs.Told.{Told, BothTold}
use Rattle.drill_history.specs.declared.numbers.TheConstants.{SHOWN_DAY, SHOWN_QUARTER}
use Rattle.drill_history.specs.Drill.{drill_history, drill_sent}
use Rattle.fact_kinds.specs.declared.batch.Batch.{Batch}
use Rattle.fact_kinds.specs.Facts.{facts_of, facts_to}
use Rattle.ldar_journal.specs.Crash.{OnDisk}
use Rattle.ldar_journal.specs.Image.{Opens}
use Rattle.ldar_law.specs.declared.reply.Reply.{Reply}
use Rattle.ldar_law.specs.declared.reply.Reply.TheVariants as replies
use Rattle.ldar_law.specs.declared.request.Request.{Request}
use Rattle.ldar_law.specs.declared.request.Request.TheVariants.{Sync, Percent}
use Rattle.ldar_law.specs.declared.request.What.{What}
use Rattle.ldar_law.specs.Machine.{Call, Moment, Runs, State, Turn}
use Rattle.ldar_law.specs.Shown.{shown}
use Rattle.ldar_ports.specs.Sink.{Piece}
use Rattle.ldar_session.specs.Served.{turns_in}
use Rattle.office_book.specs.declared.opening.BookWhy.{BookWhy}
use Rattle.office_book.specs.Opened.{IsReason}
use Rattle.office_book.specs.Safe.{AreBehind, StandsIn}
use Rattle.office_book.specs.Serving.{certain}
use Rattle.office_commands.specs.declared.drill.Asked.{Asked}
use Rattle.office_commands.specs.declared.drill.Asked.TheVariants as asks
use Rattle.office_commands.specs.declared.status.Status.{Status}
use Rattle.office_commands.specs.declared.status.Status.TheVariants.{Done, WriteFault, DiskFault, Memory, NoSuch}
use Rattle.office_commands.specs.Scene.{SeenDisk}
use Rattle.office_commands.specs.Sending.{asked_in}
use Rattle.office_commands.specs.Statuses.{TextEnds, refusal_of}
use Rattle.office_views.specs.declared.totals.Totals.{Totals}
use Rattle.office_views.specs.Totals.{totals_asked}

-- ---- the requests

-- the view of the drill's unit
abbrev pub drill_view : Request
drill_view = Percent 1 SHOWN_QUARTER SHOWN_DAY

-- a batch, and the view after it
abbrev pub with_view : Batch → List Request
with_view batch = Sync batch ∷ drill_view ∷ []

abbrev pub requests_for : List Batch → List Request
requests_for batches = flat_map with_view batches

-- the requests of a drill, in order
abbrev pub drill_requests : ℕ → ℕ → List Request
drill_requests seed size = requests_for (drill_sent seed size)

-- ---- what is asked

-- the reply is neither a disk error nor that it ran out of memory
abbrev pub IsAnswer : Reply → Type 0
IsAnswer replies.Fault = ⊥
IsAnswer replies.Memory = ⊥
IsAnswer _ = Unit {0}

abbrev pub AreAnswered : List Turn → Type 0
AreAnswered turns = AllByRecursion (λ turn. IsAnswer turn.reply) turns

-- the first of these requests were asked, up to one with this reply
pub record StopsAt (reply : Reply) (requests : List Request) (calls : List Call) : Type 0 where
  pub before : List Turn
  pub last : Turn
  pub turns : turns_in calls ≡ before ++ last ∷ []
  pub answered : AreAnswered before
  pub replied : last.reply ≡ reply
  pub behind : List Request
  pub asked : requests ≡ asked_in (turns_in calls) ++ behind

-- the end of asking these requests, from the calls
abbrev pub EndsAsks : Asked → List Request → List Call → Type 0
EndsAsks asks.Done requests calls = (asked_in (turns_in calls) ≡ requests) × AreAnswered (turns_in calls)
EndsAsks asks.Fault requests calls = StopsAt replies.Fault requests calls
EndsAsks asks.Memory requests calls = StopsAt replies.Memory requests calls

-- how asking goes on after this reply
abbrev pub asked_by : Reply → Asked
asked_by replies.Fault = asks.Fault
asked_by replies.Memory = asks.Memory
asked_by _ = asks.Done

-- ---- the text

-- the lines of the drill, and of its batches and facts
abbrev pub batches_text : ℕ → ℕ → ℕ → ℕ → List ℕ
batches_text seed size batches facts =
    codes "drill " ++ decimal seed ++ codes " " ++ decimal size ++ codes "\nbatches " ++ decimal batches ++ codes " facts " ++ decimal facts ++ codes "\n"

-- the lines of tags and duties
abbrev pub totals_text : Totals → List ℕ
totals_text totals =
    codes "tags " ++ decimal totals.tags ++ codes " open " ++ decimal totals.open_tags ++ codes "\ndue " ++ decimal totals.duties ++ codes "\n"

-- the first four lines
abbrev pub head_text : ℕ → ℕ → ℕ → ℕ → Totals → List ℕ
head_text seed size batches facts totals = batches_text seed size batches facts ++ totals_text totals

-- the text of a drill about a history: the four lines, and the view of the quarter
pub record IsDrillText (seed size : ℕ) (history : List Batch) (text : List ℕ) : Type 0 where
  pub totals : Totals
  pub counted : totals_asked 1 SHOWN_DAY (facts_to SHOWN_DAY history) ≡ Some totals
  pub quarter : List ℕ
  pub shows : shown history drill_view ≡ Some (replies.Shown quarter)
  pub says : text ≡ head_text seed size (length history) (length (facts_of history)) totals ++ quarter

-- the history has no such unit, or no such quarter of it
abbrev pub Lacks : List Batch → What → Type 0
Lacks history what =
    (totals_asked 1 SHOWN_DAY (facts_to SHOWN_DAY history) ≡ None) ⊎ (shown history drill_view ≡ Some (replies.NoSuch what))

-- the end of printing the text
abbrev pub TellsDrill : ℕ → ℕ → List Batch → Status → Option (List Piece) → Option (List Piece) → Type 0
TellsDrill seed size history Done old new = (text : List ℕ) × IsDrillText seed size history text × TextEnds text Done old new
TellsDrill seed size history WriteFault old new = (text : List ℕ) × IsDrillText seed size history text × TextEnds text WriteFault old new
TellsDrill seed size history Memory old new = new ≡ old
TellsDrill seed size history (NoSuch what) old new = Lacks history what × (new ≡ old)
TellsDrill seed size history _ old new = ⊥

-- ---- the end

-- it was cut off: at a disk error, or as it ran out of memory for the batches or for a reply
abbrev pub IsCutOff : ℕ → ℕ → Status → List Call → Type 0
IsCutOff seed size DiskFault calls = StopsAt replies.Fault (drill_requests seed size) calls
IsCutOff seed size Memory calls = (calls ≡ []) ⊎ StopsAt replies.Memory (drill_requests seed size) calls
IsCutOff seed size _ calls = ⊥

-- all was asked and answered, and the text is about the history that is then kept: from an empty one, the history of the drill
pub record IsThrough (seed size : ℕ) (history : List Batch) (status : Status) (calls : List Call) (state : State) (old new : Option (List Piece)) : Type 0 where
  pub asked : asked_in (turns_in calls) ≡ drill_requests seed size
  pub answered : AreAnswered (turns_in calls)
  pub settled : state.doubt ≡ []
  pub kept : history ≡ [] → state.history ≡ drill_history seed size
  pub tells : TellsDrill seed size state.history status old new
  pub shows : history ≡ [] → (what : What) → ¬ (status ≡ NoSuch what)

abbrev pub EndsDrill : ℕ → ℕ → List Batch → Status → List Call → State → Option (List Piece) → Option (List Piece) → Type 0
EndsDrill seed size history status calls state old new =
    (IsCutOff seed size status calls × (new ≡ old)) ⊎ IsThrough seed size history status calls state old new

-- the journal was made, but not opened; its bytes are unchanged, and open to the empty history
pub record IsMadeOnly (status : Status) (disk disk' : SeenDisk) : Type 0 where
  pub why : BookWhy
  pub tells : status ≡ refusal_of why
  pub reason : IsReason disk'.content why
  pub made : BothTold disk.content disk'.content (λ old new. (old ≡ []) × Opens new [])

-- A journal was opened over this disk, and the drill was run in it, from the history that it opened to. If the disk exposes its bytes, a
-- crash after a call returned leaves a state after this call or a later one.
pub record IsRunOver (seed size : ℕ) (status : Status) (old new : Option (List Piece)) (disk disk' : SeenDisk) : Type 0 where
  pub history : List Batch
  pub opens : Told disk.content (λ bytes. Opens bytes history)
  pub opening : Moment
  pub begins : opening.state ≡ certain history
  pub later : (disk.clock ≤ opening.clock) × (disk.faults ≤ opening.faults)
  pub calls : List Call
  pub last : Moment
  pub runs : Runs opening calls last
  pub now : (last.faults ≡ disk'.faults) × (last.clock ≡ disk'.clock)
  pub tells : BothTold disk.content disk'.content (λ _ _. Unit {0})
  pub stands : OnDisk disk'.content disk'.images (StandsIn last.state)
  pub behind : Told disk.content (λ _. AreBehind disk'.left calls)
  pub ends : EndsDrill seed size history status calls last.state old new

-- a journal was not opened over this disk; its bytes are unchanged
pub record IsNotRun (status : Status) (disk disk' : SeenDisk) : Type 0 where
  pub why : BookWhy
  pub tells : status ≡ refusal_of why
  pub reason : IsReason disk.content why
  pub unchanged : BothTold disk.content disk'.content (λ old new. new ≡ old)

-- the end of a drill over a disk with a journal
abbrev pub EndsOver : ℕ → ℕ → Status → Option (List Piece) → Option (List Piece) → SeenDisk → SeenDisk → Type 0
EndsOver seed size status old new disk disk' = (IsNotRun status disk disk' × (new ≡ old)) ⊎ IsRunOver seed size status old new disk disk'

-- The journal was made and opened, and the drill was run in it. If the disk exposes its bytes, it was empty, and so was the history that
-- the journal opened to; a crash after a call returned leaves a state after this call or a later one.
pub record IsDrilled (seed size : ℕ) (status : Status) (old new : Option (List Piece)) (disk disk' : SeenDisk) : Type 0 where
  pub history : List Batch
  pub empty : Told disk.content (λ bytes. (bytes ≡ []) × (history ≡ []))
  pub opening : Moment
  pub begins : opening.state ≡ certain history
  pub later : (disk.clock ≤ opening.clock) × (disk.faults ≤ opening.faults)
  pub calls : List Call
  pub last : Moment
  pub runs : Runs opening calls last
  pub now : (last.faults ≡ disk'.faults) × (last.clock ≡ disk'.clock)
  pub tells : BothTold disk.content disk'.content (λ _ _. Unit {0})
  pub stands : OnDisk disk'.content disk'.images (StandsIn last.state)
  pub behind : Told disk.content (λ _. AreBehind disk'.left calls)
  pub ends : EndsDrill seed size history status calls last.state old new
  pub at_end : (status ≡ Done) × (history ≡ []) → OnDisk disk'.content disk'.images (λ image. Opens image (drill_history seed size))
