-- What an office promises on a disk with a known room.
use Rattle.std.proofs.Common.{◌≡◌, ◌≢◌, ◌⊎◌, inl, inr, ℕ, Option, List, [], ◌∷◌, ◌++◌, refl, sym, ◌∙◌, ap, subst, arith}
use Rattle.std.specs.List.{AllByRecursion}
use Rattle.fact_kinds.specs.declared.batch.Batch.{Batch}
use Rattle.ldar_journal.specs.Crash.{AnswersInRoom}
use Rattle.ldar_journal.specs.Image.{batches_of}
use Rattle.ldar_journal.specs.Shelf.{Shelf}
use Rattle.ldar_journal.proofs.Histories.{batches_of-push}
use Rattle.ldar_law.specs.declared.reply.Reply.{Reply}
use Rattle.ldar_law.specs.declared.reply.Reply.TheVariants.{Receipt, Conflict, Denied, Full, Shown, NoSuch, Fault, Memory}
use Rattle.ldar_law.specs.declared.request.Request.{Request}
use Rattle.ldar_law.specs.Machine.{State}
use Rattle.office_book.specs.Room.{HasRoom, HasRoomFor, IsNoFault}
use Rattle.office_book.specs.Serving.{added, Serves}

-- the disk was not called
pub room_stays : {D : Type 0} (room_of : D → Option ℕ) (clock_of : D → ℕ) (n : ℕ) (disk : D) (P : ℕ → Type 0) → ((room : ℕ) → P room)
    → AnswersInRoom room_of clock_of n disk disk P
room_stays room_of clock_of n disk P kept = record { stays = refl; steps = λ room told. omega arith; answers = λ room told below. kept room }

-- the room for what requests add is there after the settling, whatever was found
pub room_after : {D : Type 0} (old middle : Shelf D) (requests : List Request) (room : ℕ)
    → (middle.frames ≡ old.frames) ⊎ ((old.doubt ≢ []) × (middle.frames ≡ old.frames ++ old.doubt ∷ [])) → HasRoomFor old requests room
    → HasRoom middle.frames (added (batches_of middle.frames) requests) room
room_after old middle requests room (inl same) has =
    subst (λ (f : List (List Batch)). HasRoom f (added (batches_of f) requests) room) (sym same) has.0
room_after old middle requests room (inr grown) has =
    let whole = ap batches_of grown.1 ∙ batches_of-push old.frames old.doubt in
    subst (λ (f : List (List Batch)). HasRoom f (added (batches_of middle.frames) requests) room) (sym grown.1)
    (subst (λ (l : List Batch). HasRoom (old.frames ++ old.doubt ∷ []) (added l requests) room) (sym whole) (has.1 grown.0))

-- ---- replies without a disk error

-- the first of some replies, and those after it
faultless_more : (history : List Batch) (request : Request) (requests : List Request) (reply : Reply) (replies : List Reply) (next : State)
    → ((after : List Batch) → Serves ⊥ after requests replies next → AllByRecursion IsNoFault replies)
    → Serves ⊥ history (request ∷ requests) (reply ∷ replies) next → AllByRecursion IsNoFault (reply ∷ replies)
faultless_more history request requests (Receipt handheld number position) replies next rest serves = (λ is. cc, rest serves.0 serves.2)
faultless_more history request requests (Conflict position) replies next rest serves = (λ is. cc, rest serves.0 serves.2)
faultless_more history request requests (Denied fact rule) replies next rest serves = (λ is. cc, rest serves.0 serves.2)
faultless_more history request requests (Full facts) replies next rest serves = (λ is. cc, rest serves.0 serves.2)
faultless_more history request requests (Shown text) replies next rest serves = (λ is. cc, rest serves.0 serves.2)
faultless_more history request requests (NoSuch what) replies next rest serves = (λ is. cc, rest serves.0 serves.2)
faultless_more history request requests Fault replies next rest serves = absurd serves.why
faultless_more history request requests Memory replies next rest serves = (λ is. cc, rest history serves.1)

-- if nothing can fail, no reply is a disk error
pub faultless : (history : List Batch) (requests : List Request) (replies : List Reply) (next : State) → Serves ⊥ history requests replies next
    → AllByRecursion IsNoFault replies
faultless history [] [] next serves = tt
faultless history [] (reply ∷ replies) next serves = absurd serves
faultless history (request ∷ requests) [] next serves = absurd serves
faultless history (request ∷ requests) (reply ∷ replies) next serves =
    faultless_more history request requests reply replies next (λ after more. faultless after requests replies next more) serves
