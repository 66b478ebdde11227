-- The state of an office over its journal, and the results of writing a frame.
use Rattle.std.specs.Prelude.{◌≡◌, ◌⊎◌, ℕ, Bool, if◌then◌else◌, Option, List, ◌++◌, length, take}
use Rattle.fact_kinds.specs.declared.batch.Batch.{Batch}
use Rattle.ldar_journal.specs.Crash.{OnDisk}
use Rattle.ldar_journal.specs.Image.{batches_of}
use Rattle.ldar_journal.specs.Shelf.{Shelf}
use Rattle.ldar_law.specs.declared.reply.Reply.{Reply}
use Rattle.ldar_law.specs.declared.reply.Reply.TheVariants.{Receipt, Conflict}
use Rattle.ldar_law.specs.Machine.{State}
use Rattle.office_book.specs.declared.frame.Written.{Written}
use Rattle.office_book.specs.declared.frame.Written.TheVariants.{Stands, Fault, Memory}
use Rattle.office_book.specs.Archive.{MayCome}
use Rattle.office_book.specs.Safe.{StandsIn, state_of}
use Rattle.office_book.specs.Serving.{certain, uncertain}
use Rattle.office_views.specs.Held.{Held}

-- the batches of the journal and those in doubt are a ruly history. The archive has those of the journal, room for those in doubt, and
-- copies of them. A crash leaves this state.
pub record IsBook {D : Type 0} (content_of : D → Option (List ℕ)) (images_of : D → List ℕ → Type 0) (journal : Shelf D) (archive : Held)
    (copies : List Batch) : Type 0 where
  pub may_come : MayCome (batches_of journal.frames) journal.doubt
  pub adopted : archive.adopted ≡ batches_of journal.frames
  pub roomy : take (length journal.doubt) archive.spare ≡ journal.doubt
  pub copied : copies ≡ journal.doubt
  pub stands : OnDisk (content_of journal.disk) (images_of journal.disk) (StandsIn (state_of journal))

-- a frame of these batches was written after a history, or not, or may have been, or it was out of memory before
abbrev pub IsWritten : Type 0 → List Batch → List Batch → Written → State → Type 0
IsWritten faulty history batches Stands new = new ≡ certain (history ++ batches)
IsWritten faulty history batches Fault new = faulty × ((new ≡ certain history) ⊎ (new ≡ uncertain history batches))
IsWritten faulty history batches Memory new = new ≡ certain history

-- the reply to a batch whose identity is kept at a position, with equal or with other content
abbrev pub kept_reply : Batch → ℕ → Bool → Reply
kept_reply batch position same = if same then Receipt batch.handheld batch.number position else Conflict position
