-- What taking an answer asks of an office, and its result.
use Rattle.std.specs.Prelude.{◌≡◌, ◌≢◌, ◌⊎◌, ℕ, ◌+◌, ◌-◌, ◌<◌, ◌≤◌, Option, Some, List, [], ◌∷◌, ◌++◌, length, take, slice_get}
use Rattle.fact_kinds.specs.declared.batch.Batch.{Batch}
use Rattle.disk_model.specs.Told.{Told}
use Rattle.ldar_journal.specs.Crash.{LeavesOnly}
use Rattle.ldar_journal.specs.Image.{batches_of}
use Rattle.ldar_journal.specs.Shelf.{Shelf}
use Rattle.ldar_law.specs.declared.reply.Reply.{Reply}
use Rattle.ldar_law.specs.declared.reply.Reply.TheVariants as replies
use Rattle.ldar_law.specs.declared.reply.Reply.TheVariants.{Receipt, Conflict, Denied, Full, Shown, NoSuch}
use Rattle.ldar_law.specs.declared.request.Request.TheVariants.{Sync}
use Rattle.ldar_law.specs.Machine.{Call}
use Rattle.office_interface.specs.Asking.{requests_of, replies_of}
use Rattle.office_book.specs.Safe.{state_of}
use Rattle.office_mirror.specs.declared.answer.Answer.{Answer}
use Rattle.office_mirror.specs.declared.taken.Taken.{Taken}
use Rattle.office_mirror.specs.declared.taken.Taken.TheVariants.{Gap, Held, Stranger, Fault, Memory}
use Rattle.office_mirror.specs.Fronts.{StandFrom, IsMirrorOf, HoldsFront}

-- the call asks this batch and nothing else, and this is its reply
pub record IsAsked (batch : Batch) (reply : Reply) (call : Call) : Type 0 where
  pub request : requests_of call ≡ Sync batch ∷ []
  pub told : replies_of call ≡ reply ∷ []

-- .. and the reply is a receipt of this position
abbrev pub IsReceiptedAt : ℕ → Batch → Call → Type 0
IsReceiptedAt position batch call = (handheld : ℕ) × (number : ℕ) × IsAsked batch (Receipt handheld number position) call

-- these batches were asked in order, each in a call of its own, and receipted at the positions from this one on
abbrev pub AreReceipted : ℕ → List Batch → List Call → Type 0
AreReceipted position [] [] = Unit {0}
AreReceipted position [] (call ∷ calls) = ⊥
AreReceipted position (batch ∷ batches) [] = ⊥
AreReceipted position (batch ∷ batches) (call ∷ calls) = IsReceiptedAt position batch call × AreReceipted (position + 1) batches calls

-- the first `count` batches of the answer were asked, receipted at their positions, and are in the history from there on
pub record AreTaken (answer : Answer) (count : ℕ) (history : List Batch) (calls : List Call) : Type 0 where
  pub within : count ≤ length answer.batches
  pub receipted : AreReceipted (answer.start + 1) (take count answer.batches) calls
  pub kept : StandFrom history answer.start (take count answer.batches)

-- this many batches of the answer were taken, and the call of the next one was the last and had this reply
pub record EndsAfter (answer : Answer) (count : ℕ) (history : List Batch) (calls : List Call) (reply : Reply) : Type 0 where
  pub before : List Call
  pub last : Call
  pub are : calls ≡ before ++ last ∷ []
  pub taken : AreTaken answer count history before
  pub batch : Batch
  pub next : slice_get answer.batches count ≡ Some batch
  pub asked : IsAsked batch reply last

-- the reply says that another batch is at this position, or that the batch is not kept
abbrev pub IsStrange : ℕ → Reply → Type 0
IsStrange position (Receipt handheld number at) = at ≢ position
IsStrange position (Conflict at) = Unit {0}
IsStrange position (Denied fact rule) = Unit {0}
IsStrange position (Full facts) = Unit {0}
IsStrange position (Shown text) = ⊥
IsStrange position (NoSuch what) = ⊥
IsStrange position replies.Fault = ⊥
IsStrange position replies.Memory = ⊥

-- What came of an answer, by the calls that were made for it, the number of batches held before it, and the history after it. A stranger's index
-- counts from 1. Memory may also run out before the call of a batch.
abbrev pub IsTaken : Answer → ℕ → List Batch → List Call → Taken → Type 0
IsTaken answer held history calls (Gap start held_now) = (held < answer.start) × (start ≡ answer.start) × (held_now ≡ held) × (calls ≡ [])
IsTaken answer held history calls (Held count) =
    (answer.start ≤ held) × AreTaken answer (length answer.batches) history calls × (count ≡ length history)
IsTaken answer held history calls (Stranger index reply) =
    (answer.start ≤ held) × (1 ≤ index) × EndsAfter answer (index - 1) history calls reply × IsStrange (answer.start + index) reply
IsTaken answer held history calls Fault = (answer.start ≤ held) × (count : ℕ) × EndsAfter answer count history calls replies.Fault
IsTaken answer held history calls Memory =
    (answer.start ≤ held) × (count : ℕ) × (EndsAfter answer count history calls replies.Memory ⊎ AreTaken answer count history calls)

-- the result of an answer that ends with this reply to its batch with this index
abbrev pub ended_by : Reply → ℕ → Taken
ended_by (Receipt handheld number position) index = Stranger index (Receipt handheld number position)
ended_by (Conflict position) index = Stranger index (Conflict position)
ended_by (Denied fact rule) index = Stranger index (Denied fact rule)
ended_by (Full facts) index = Stranger index (Full facts)
ended_by (Shown text) index = Stranger index (Shown text)
ended_by (NoSuch what) index = Stranger index (NoSuch what)
ended_by replies.Fault index = Fault
ended_by replies.Memory index = Memory

-- a batch was asked in one call, or in none as memory ran out
abbrev pub AsksOnce : Batch → Reply → List Call → Type 0
AsksOnce batch reply calls = ((calls ≡ []) × (reply ≡ replies.Memory)) ⊎ ((call : Call) × (calls ≡ call ∷ []) × IsAsked batch reply call)

-- the result if the batches are those of the first office
abbrev pub MirrorsAs : Answer → Taken → Type 0
MirrorsAs answer (Gap start held) = Unit {0}
MirrorsAs answer (Held count) = answer.start + length answer.batches ≤ count
MirrorsAs answer (Stranger index reply) = ⊥
MirrorsAs answer Fault = Unit {0}
MirrorsAs answer Memory = Unit {0}

-- From one value of a mirror of this history to a later one: each image that a crash may have left since is a front of it with at least the batches
-- held before, and so is what is held now.
pub record KeepsMirror {D : Type 0} (content_of : D → Option (List ℕ)) (left_of : D → ℕ → List ℕ → Type 0) (clock_of : D → ℕ) (all : List Batch)
    (old new : Shelf D) : Type 0 where
  pub images : Told (content_of old.disk) (λ _. LeavesOnly clock_of left_of old.disk new.disk (HoldsFront all (length (batches_of old.frames))))
  pub mirror : IsMirrorOf all (state_of new)
  pub grows : length (batches_of old.frames) ≤ length (batches_of new.frames)
