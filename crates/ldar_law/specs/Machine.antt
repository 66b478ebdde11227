-- The office as a machine: its reply to a request after a history of accepted batches, and what a disk error leaves in doubt.
use Rattle.std.specs.Prelude.{◌≡◌, ◌≢◌, ℕ, ◌+◌, ◌-◌, ◌<◌, ◌≤◌, ◌^◌, ◌⊎◌, Bool, true, false, ◌&&◌, if◌then◌else◌}
use Rattle.std.specs.Prelude.{Option, Some, None, is_none, List, [], ◌∷◌, ◌++◌, length, slice_get, IsTrue}
use Rattle.std.specs.List.{AllByRecursion}
use Rattle.fact_kinds.specs.declared.limits.TheConstants.{FRAME_BATCHES}
use Rattle.fact_kinds.specs.declared.batch.Batch.{Batch}
use Rattle.fact_kinds.specs.Identity.{identity_of, position_of}
use Rattle.ldar_law.specs.declared.request.Request.{Request}
use Rattle.ldar_law.specs.declared.request.Request.TheVariants.{Sync, Due, Tags, Delays, Route, Percent, Report as ReportView}
use Rattle.ldar_law.specs.declared.reply.Reply.{Reply}
use Rattle.ldar_law.specs.declared.reply.Reply.TheVariants.{Receipt, Conflict, Denied, Full, Shown, NoSuch, Fault, Memory}
use Rattle.ldar_law.specs.declared.verdict.Verdict.TheVariants.{Denied as DeniedBatch, Full as FullOffice}
use Rattle.ldar_law.specs.Shown.{shown}
use Rattle.ldar_law.specs.Verdicts.{verdict_on, is_pass}

-- ---- replies after a history

-- the batch at a position, from 1
abbrev pub batch_at : List Batch → ℕ → Option Batch
batch_at history position = slice_get history (position - 1)

-- this position, from 1, is the first with the identity of the batch, and has this kept batch
abbrev pub StandsAt : List Batch → Batch → ℕ → Batch → Type 0
StandsAt history batch position kept = (position_of (identity_of batch) history ≡ Some position) × (batch_at history position ≡ Some kept)

-- no batch of the history has the identity of this one
abbrev pub IsNew : List Batch → Batch → Type 0
IsNew history batch = position_of (identity_of batch) history ≡ None

-- the batch is accepted after a history: it is new, and no rule denies it
abbrev pub is_accepted : List Batch → Batch → Bool
is_accepted history batch = is_none (position_of (identity_of batch) history) && is_pass (verdict_on history batch)

-- The reply to a batch, and the history after it. Already kept with equal content: the receipt of its position, again. Kept with other
-- content: a conflict with that position. New: denied, or too large, or added at the end with a receipt.
abbrev pub AnswersBatch : List Batch → Batch → Reply → List Batch → Type 0
AnswersBatch history batch (Receipt handheld number position) after =
    (handheld ≡ batch.handheld) × (number ≡ batch.number)
    × ((StandsAt history batch position batch × (after ≡ history))
    ⊎ (IsTrue (is_accepted history batch) × (position ≡ length history + 1) × (after ≡ history ++ batch ∷ [])))
AnswersBatch history batch (Conflict position) after = (kept : Batch) × StandsAt history batch position kept × ¬ (kept ≡ batch) × (after ≡ history)
AnswersBatch history batch (Denied fact rule) after = IsNew history batch × (verdict_on history batch ≡ DeniedBatch fact rule) × (after ≡ history)
AnswersBatch history batch (Full facts) after = IsNew history batch × (verdict_on history batch ≡ FullOffice facts) × (after ≡ history)
AnswersBatch history batch (Shown text) after = ⊥
AnswersBatch history batch (NoSuch what) after = ⊥
AnswersBatch history batch Fault after = ⊥
AnswersBatch history batch Memory after = ⊥

-- the reply to a view is what the history shows; the history does not change
abbrev pub AnswersView : List Batch → Request → Reply → List Batch → Type 0
AnswersView history request reply after = (shown history request ≡ Some reply) × (after ≡ history)

-- the reply to a request, and the history after it
abbrev pub Answers : List Batch → Request → Reply → List Batch → Type 0
Answers history (Sync batch) reply after = AnswersBatch history batch reply after
Answers history (Due unit day) reply after = AnswersView history (Due unit day) reply after
Answers history (Tags unit day) reply after = AnswersView history (Tags unit day) reply after
Answers history (Delays unit day) reply after = AnswersView history (Delays unit day) reply after
Answers history (Route unit day stops) reply after = AnswersView history (Route unit day stops) reply after
Answers history (Percent unit quarter day) reply after = AnswersView history (Percent unit quarter day) reply after
Answers history (ReportView unit half day) reply after = AnswersView history (ReportView unit half day) reply after

-- the batch that a request adds to a history, if it adds one
abbrev pub batch_added : List Batch → Request → Option Batch
batch_added history (Sync batch) = if is_accepted history batch then Some batch else None
batch_added history (Due unit day) = None
batch_added history (Tags unit day) = None
batch_added history (Delays unit day) = None
batch_added history (Route unit day stops) = None
batch_added history (Percent unit quarter day) = None
batch_added history (ReportView unit half day) = None

-- a request takes memory if it adds a batch, or if its reply is a text
abbrev pub TakesMemory : List Batch → Request → Type 0
TakesMemory history request =
    ((batch : Batch) × (batch_added history request ≡ Some batch)) ⊎ ((text : List ℕ) × (shown history request ≡ Some (Shown text)))

-- ---- turns

-- the accepted batches, and those of a failed write that may or may not be on the disk
pub record State : Type 0 where
  pub history : List Batch
  pub doubt : List Batch

-- what was found about the batches in doubt before a request was answered: nothing was looked up, they are kept, or they are gone
pub data Finding : Type 0 where
  not_asked : Finding
  they_stand : Finding
  they_are_gone : Finding

-- a request and its reply; what was found before it; whether a failed write leaves its batch in doubt; the disk's count of errors when the
-- call began and when it returned; and the disk's clock when it returned
pub record Turn : Type 0 where
  pub request : Request
  pub reply : Reply
  pub found : Finding
  pub in_doubt : Bool
  pub before : ℕ
  pub after : ℕ
  pub clock : ℕ

-- the state after this finding
abbrev pub settled : Finding → State → State
settled not_asked state = state
settled they_stand state = record { history = state.history ++ state.doubt; doubt = [] }
settled they_are_gone state = record { history = state.history; doubt = [] }

-- only batches that were in doubt can be found or found missing
abbrev pub CanBeFound : Finding → State → Type 0
CanBeFound not_asked state = Unit {0}
CanBeFound they_stand state = state.doubt ≢ []
CanBeFound they_are_gone state = state.doubt ≢ []

-- the count of errors rose in the call, or is at its maximum
abbrev pub HasFault : Turn → Type 0
HasFault turn = (turn.before < turn.after) ⊎ (turn.after ≡ 2 ^ 64 - 1)

-- nothing is in doubt, and the reply is the one that the history determines
pub record IsAnswered (state : State) (turn : Turn) (next : State) : Type 0 where
  pub nothing_in_doubt : state.doubt ≡ []
  pub none_left : next.doubt ≡ []
  pub certain : turn.in_doubt ≡ false
  pub answers : Answers state.history turn.request turn.reply next.history

-- nothing is in doubt, and a request that takes memory ran out of it; the history does not change
pub record IsWanting (state : State) (turn : Turn) (next : State) : Type 0 where
  pub nothing_in_doubt : state.doubt ≡ []
  pub certain : turn.in_doubt ≡ false
  pub takes : TakesMemory state.history turn.request
  pub stays : next ≡ state

-- an error that leaves the state: the batches in doubt could not be settled, or no part of a batch to be added was written
pub record LeavesState (state : State) (turn : Turn) (next : State) : Type 0 where
  pub faulty : HasFault turn
  pub certain : turn.in_doubt ≡ false
  pub why : (state.doubt ≢ []) ⊎ ((batch : Batch) × (batch_added state.history turn.request ≡ Some batch))
  pub stays : next ≡ state

-- a turn without a disk error, after the finding
abbrev pub GoesOn : State → Turn → State → Type 0
GoesOn state turn next = elim turn.reply [
  | Fault ↦ ⊥
  | Memory ↦ IsWanting state turn next
  | _ ↦ IsAnswered state turn next
]

-- a turn without a disk error
pub record Step (state : State) (turn : Turn) (next : State) : Type 0 where
  pub can : CanBeFound turn.found state
  pub goes_on : GoesOn (settled turn.found state) turn next

-- ---- groups of turns that are handled in one call

-- the batches that these turns add to a history, each after those before it
abbrev pub batches_added : List Batch → List Turn → List Batch
batches_added history [] = []
batches_added history (turn ∷ turns) = elim (batch_added history turn.request) [
  | None ↦ batches_added history turns
  | Some batch ↦ batch ∷ batches_added (history ++ batch ∷ []) turns
]

-- an error that leaves in doubt the batches of this turn and the turns after it, which were written in one frame
pub record LeavesDoubt (state : State) (turn : Turn) (turns : List Turn) (next : State) : Type 0 where
  pub faulty : HasFault turn
  pub uncertain : turn.in_doubt ≡ true
  pub nothing_in_doubt : state.doubt ≡ []
  pub batch : Batch
  pub adds : batch_added state.history turn.request ≡ Some batch
  pub leaves : next ≡ record { history = state.history; doubt = batches_added state.history (turn ∷ turns) }

-- the first error of a group; the turns after it report an error too
pub record BreaksOff (state : State) (turn : Turn) (turns : List Turn) (next : State) : Type 0 where
  pub can : CanBeFound turn.found state
  pub leaves : LeavesState (settled turn.found state) turn next ⊎ LeavesDoubt (settled turn.found state) turn turns next
  pub others : AllByRecursion (λ t. t.reply ≡ Fault) turns

-- the turns of a group one after the other, up to the first error
abbrev pub Steps : State → List Turn → State → Type 0
Steps state [] next = next ≡ state
Steps state (turn ∷ turns) next = elim turn.reply [
  | Fault ↦ BreaksOff state turn turns next
  | _ ↦ (between : State) × Step state turn between × Steps between turns next
]

-- ---- runs

-- the start or end of a run: the state, and the disk's count of errors and its clock
pub record Moment : Type 0 where
  pub state : State
  pub faults : ℕ
  pub clock : ℕ

-- the turn is part of a call that began with this count of errors and ended at this moment
pub record IsOfCall (before : ℕ) (end : Moment) (turn : Turn) : Type 0 where
  pub begins : turn.before ≡ before
  pub counts : turn.after ≡ end.faults
  pub returns : turn.clock ≡ end.clock

-- a group of 1 to 16 turns from one moment to the next
pub record GroupStep (start : Moment) (turns : List Turn) (end : Moment) : Type 0 where
  pub some : turns ≢ []
  pub fits : length turns ≤ FRAME_BATCHES
  pub steps : Steps start.state turns end.state
  pub before : ℕ
  pub count : (start.faults ≤ before) × (before ≤ end.faults)
  pub time : start.clock ≤ end.clock
  pub call : AllByRecursion (IsOfCall before end) turns

-- a group, and the moment after it
pub record Call : Type 0 where
  pub turns : List Turn
  pub end : Moment

-- groups one after the other; the count of errors and the clock may rise between them
abbrev pub Runs : Moment → List Call → Moment → Type 0
Runs start [] end = (end.state ≡ start.state) × (start.faults ≤ end.faults) × (start.clock ≤ end.clock)
Runs start (call ∷ calls) end = GroupStep start call.turns call.end × Runs call.end calls end
