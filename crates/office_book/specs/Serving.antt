-- The replies of an office with nothing in doubt to the requests of a group, the state that it leaves, and the turns of such a call.
use Rattle.std.specs.Prelude.{◌≡◌, ◌⊎◌, ℕ, Bool, true, false, Some, None, List, [], ◌∷◌, ◌++◌, length}
use Rattle.std.specs.List.{AllByRecursion}
use Rattle.fact_kinds.specs.declared.batch.Batch.{Batch}
use Rattle.ldar_law.specs.declared.reply.Reply.{Reply}
use Rattle.ldar_law.specs.declared.reply.Reply.TheVariants.{Receipt, Conflict, Denied, Full, Shown, NoSuch, Fault, Memory}
use Rattle.ldar_law.specs.declared.request.Request.{Request}
use Rattle.ldar_law.specs.Machine.{State, Moment, Turn, Finding, not_asked, Answers, TakesMemory, batch_added, settled, CanBeFound}

-- the state with this history and nothing in doubt
abbrev pub certain : List Batch → State
certain history = record { history = history; doubt = [] }

-- the state with this history and these batches in doubt
abbrev pub uncertain : List Batch → List Batch → State
uncertain history doubt = record { history = history; doubt = doubt }

-- the batches that requests add to a history, each after those before it
abbrev pub added : List Batch → List Request → List Batch
added history [] = []
added history (request ∷ requests) = elim (batch_added history request) [
  | None ↦ added history requests
  | Some batch ↦ batch ∷ added (history ++ batch ∷ []) requests
]

-- the first disk error of a group that writes: its request adds a batch, and the frame is not written or is in doubt; the replies after it
-- are disk errors
pub record Stops (faulty : Type 0) (history : List Batch) (request : Request) (requests : List Request) (replies : List Reply) (next : State) : Type 0 where
  pub why : faulty
  pub batch : Batch
  pub adds : batch_added history request ≡ Some batch
  pub leaves : (next ≡ certain history) ⊎ (next ≡ uncertain history (added history (request ∷ requests)))
  pub others : AllByRecursion (λ reply. reply ≡ Fault) replies
  pub each : length replies ≡ length requests

-- Exactly one reply to each request, with nothing in doubt before the first; `faulty` holds at a disk error.
abbrev pub Serves : Type 0 → List Batch → List Request → List Reply → State → Type 0
Serves faulty history [] [] next = next ≡ certain history
Serves faulty history [] (reply ∷ replies) next = ⊥
Serves faulty history (request ∷ requests) [] next = ⊥
Serves faulty history (request ∷ requests) (reply ∷ replies) next = elim reply [
  | Fault ↦ Stops faulty history request requests replies next
  | Memory ↦ TakesMemory history request × Serves faulty history requests replies next
  | other ↦ (after : List Batch) × Answers history request other after × Serves faulty after requests replies next
]

-- what was found about the batches in doubt before a call continued
pub record IsFound (found : Finding) (old new : State) : Type 0 where
  pub can : CanBeFound found old
  pub is : new ≡ settled found old
  pub certain : new.doubt ≡ []

-- ---- the turns of a call

-- a disk error may leave batches in doubt
abbrev pub doubts : Bool → Reply → Bool
doubts doubt (Receipt handheld number position) = false
doubts doubt (Conflict position) = false
doubts doubt (Denied fact rule) = false
doubts doubt (Full facts) = false
doubts doubt (Shown text) = false
doubts doubt (NoSuch what) = false
doubts doubt Fault = doubt
doubts doubt Memory = false

-- a request and its reply, in a call that began with this count of errors and ended at this moment
abbrev pub turn_of : Finding → Bool → ℕ → Moment → Request → Reply → Turn
turn_of found doubt before end request reply = record {
  request = request;
  reply = reply;
  found = found;
  in_doubt = doubts doubt reply;
  before = before;
  after = end.faults;
  clock = end.clock;
}

-- the turns of these requests and replies; the finding is that of the first
abbrev pub turns_of : Finding → Bool → ℕ → Moment → List Request → List Reply → List Turn
turns_of found doubt before end [] replies = []
turns_of found doubt before end (request ∷ requests) [] = []
turns_of found doubt before end (request ∷ requests) (reply ∷ replies) =
    turn_of found doubt before end request reply ∷ turns_of not_asked doubt before end requests replies

-- there is a batch
abbrev pub has_some : List Batch → Bool
has_some [] = false
has_some (batch ∷ batches) = true
