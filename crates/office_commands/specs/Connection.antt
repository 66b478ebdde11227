-- The effect of a connection or an import on the journal of a disk, and what a crash at any moment leaves of it.
use Rattle.std.specs.Prelude.{◌≡◌, ◌≤◌, ◌⊎◌, ℕ, List, [], ◌∷◌, ◌++◌, length, take, drop, Option, MatchOption, IsTrue}
use Rattle.std.specs.List.{AllByRecursion}
use Rattle.disk_model.specs.Told.{Told, BothTold}
use Rattle.fact_kinds.specs.declared.batch.Batch.{Batch}
use Rattle.ldar_ports.specs.Source.{Takes}
use Rattle.ldar_ports.specs.Sink.{Piece, Puts, bytes_of, stamps_of}
use Rattle.ldar_journal.specs.Image.{Opens}
use Rattle.ldar_law.specs.Machine.{Call, Moment, Runs}
use Rattle.ldar_law.specs.Verdicts.{is_ruly}
use Rattle.office_book.specs.Receipts.{AreReceiptsKept, IsReceiptKept}
use Rattle.office_book.specs.Safe.{StandsIn, StandsInRun, AreBehind}
use Rattle.office_book.specs.Serving.{certain}
use Rattle.ldar_session.specs.Batches.{IsBatch}
use Rattle.ldar_session.specs.Dock.{Ends as EndsBatches}
use Rattle.ldar_session.specs.Requests.{HasItsAnswer}
use Rattle.office_commands.specs.Sending.{IsSent}
use Rattle.ldar_session.specs.Session.{Ends as EndsRequests}
use Rattle.ldar_session.specs.Served.{Served, Stamped, items_of, texts_of, turns_in, turns_of}
use Rattle.ldar_ports.specs.declared.ended.Ended.{Ended}
use Rattle.office_commands.specs.Scene.{SeenDisk, Streams, MayLeave}
use Rattle.office_commands.specs.declared.command.Sort.{Sort}
use Rattle.office_commands.specs.declared.status.Status.{Status}
use Rattle.office_commands.specs.Imports.{EndsImport}

-- the image opens to a history in which each batch passes after those before it
pub record OpensRuly (image : List ℕ) : Type 0 where
  pub history : List Batch
  pub opens : Opens image history
  pub ruly : IsTrue (is_ruly history)

-- the batch of an item's receipt is at its position in each of these images
abbrev pub IsLineKept : (List ℕ → Type 0) → Served → Type 0
IsLineKept images s = MatchOption s.turn (Unit {0}) (IsReceiptKept images)

-- the batch of a receipt is at its position in each image left after a byte of the receipt's line was written
abbrev pub AreLinesKept : (ℕ → List ℕ → Type 0) → List Served → List ℕ → Type 0
AreLinesKept left [] stamps = Unit {0}
AreLinesKept left (s ∷ served) stamps =
    AllByRecursion (λ stamp. IsLineKept (left stamp) s) (take (length s.text) stamps) × AreLinesKept left served (drop (length s.text) stamps)

-- What a crash leaves of a run of calls over an opened disk.
-- any_moment: an image left at any moment was possible before, or opens in a state of the run.
-- since: an image left since the opening opens in the opened state or in the state after some call.
-- `behind`: an image left since a call returned opens in the state after this call or after a later one.
-- receipts: the batch of a receipt is at its position in each image left since its call returned.
-- lines: the batch of a receipt is at its position in each image left after a byte of its line was written.
-- at_end: an image that could be left now opens in the last state.
-- ruly: if each image before opened to a ruly history, so does each image left at any moment.
pub record IsCrashSafe (old new : SeenDisk) (opening : Moment) (calls : List Call) (last : Moment) (served : List Served) (put : List Piece) : Type 0 where
  pub any_moment : MayLeave old new (λ image. old.images image ⊎ StandsInRun opening.state calls image)
  pub since : (image : List ℕ) → new.left opening.clock image → StandsInRun opening.state calls image
  pub behind : AreBehind new.left calls
  pub receipts : AreReceiptsKept new.left calls
  pub lines : AreLinesKept new.left served (stamps_of put)
  pub at_end : (image : List ℕ) → new.images image → StandsIn last.state image
  pub ruly : ((image : List ℕ) → old.images image → OpensRuly image) → (image : List ℕ) → new.left old.clock image → OpensRuly image

-- The bytes read are the items of a run of the machine, which begins with the history that the journal opened to. The bytes written are the
-- answers, except for text that was not written, and no stamp is past the last clock. The content at the end opens to the last state, and
-- the run is safe at every crash.
pub record IsConnection {E : Type 0} (IsItem : Served → Type 0) (Closes : E → List Served → List ℕ → Option (List ℕ) → List ℕ → Type 0) (ended : E)
    (old new : Streams) (disk disk' : SeenDisk) : Type 0 where
  -- the history that the journal opened to
  pub history : List Batch
  pub opens : Told disk.content (λ bytes. Opens bytes history)
  pub ruly : IsTrue (is_ruly history)
  -- the run
  pub opening : Moment
  pub begins : opening.state ≡ certain history
  pub later : (disk.clock ≤ opening.clock) × (disk.faults ≤ opening.faults)
  pub calls : List Call
  pub last : Moment
  pub runs : Runs opening calls last
  pub now : (last.faults ≡ disk'.faults) × (last.clock ≡ disk'.clock)
  pub tells : BothTold disk.content disk'.content (λ _ _. Unit {0})
  pub stands : Told disk'.content (StandsIn last.state)
  -- the items that were read and their answers
  pub served : List Served
  pub rest : List ℕ
  pub unsaid : List ℕ
  pub put : List Piece
  pub turns : turns_in calls ≡ turns_of served
  pub each : AllByRecursion IsItem served
  pub takes : Takes old.unread (items_of served ++ rest) new.unread
  pub puts : Puts old.pieces put new.pieces
  pub said : texts_of served ≡ bytes_of put ++ unsaid
  pub stamped : Stamped served (stamps_of put)
  pub within : AllByRecursion (λ stamp. stamp ≤ disk'.clock) (stamps_of put)
  pub ends : Closes ended served rest new.unread unsaid
  -- what a crash leaves
  pub safe : Told disk.content (λ _. IsCrashSafe disk disk' opening calls last served put)

-- the items are batches, and the text of each is the line of its reply
abbrev pub IsDocked : Ended → Streams → Streams → SeenDisk → SeenDisk → Type 0
IsDocked ended old new disk disk' = IsConnection IsBatch EndsBatches ended old new disk disk'

-- the items are HTTP requests, each with its response; the last may be refused bytes
abbrev pub IsDrained : Ended → Streams → Streams → SeenDisk → SeenDisk → Type 0
IsDrained ended old new disk disk' = IsConnection HasItsAnswer EndsRequests ended old new disk disk'

-- the input is a file of the register, its batches are the items, and the text of each is the line of its reply
abbrev pub IsImported : Sort → ℕ → Status → Streams → Streams → SeenDisk → SeenDisk → Type 0
IsImported sort number status old new disk disk' =
    IsConnection IsSent (EndsImport sort number (old.output_faults, new.output_faults)) status old new disk disk'
