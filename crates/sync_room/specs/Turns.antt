-- One turn of the office machine, as the history of a room has it: without a gap to the turn before it.
use Rattle.std.specs.Prelude.{◌≡◌, [], ◌∷◌, ℕ, List, Option}
use Rattle.ldar_journal.specs.Crash.{OnDisk}
use Rattle.ldar_journal.specs.Shelf.{Shelf}
use Rattle.ldar_law.specs.declared.reply.Reply.{Reply}
use Rattle.ldar_law.specs.declared.request.Request.{Request}
use Rattle.ldar_law.specs.Machine.{GroupStep, Moment, Turn}
use Rattle.office_book.specs.Safe.{StandsIn, state_of}

-- a turn of a call of its own, from one moment to the next; its first count of faults is that of the moment before it
pub record IsOneTurn (start : Moment) (turn : Turn) (end : Moment) : Type 0 where
  pub step : GroupStep start (turn ∷ []) end
  pub before : turn.before ≡ start.faults

-- there is a turn with this request and this reply from one moment to the other
pub record Replies (start : Moment) (request : Request) (reply : Reply) (end : Moment) : Type 0 where
  pub turn : Turn
  pub asked : turn.request ≡ request
  pub answered : turn.reply ≡ reply
  pub is : IsOneTurn start turn end

-- each image that a crash may leave of a book's disk opens to the history of the book, or to that and the batches in doubt
abbrev pub IsDurable : {D : Type 0} → (D → Option (List ℕ)) → (D → List ℕ → Type 0) → Shelf D → Type 0
IsDurable content_of images_of shelf = OnDisk (content_of shelf.disk) (images_of shelf.disk) (StandsIn (state_of shelf))
