-- What opening a journal promises.
use Rattle.std.specs.Prelude.{◌≡◌, ◌≢◌, ◌⊎◌, ℕ, ◌<◌, ◌≤◌, Bool, Option, List, [], length, take, drop, slice_index}
use Rattle.disk_model.specs.Images.{Only}
use Rattle.disk_model.specs.Told.{Told, BothTold}
use Rattle.batch_positions.specs.Positions.{PositionsState}
use Rattle.fact_kinds.specs.declared.batch.Batch.{Batch}
use Rattle.fact_kinds.specs.declared.identity.Identity.{Identity}
use Rattle.ldar_journal.specs.declared.judging.Judged.{Judged}
use Rattle.ldar_journal.specs.declared.judging.Judged.TheVariants.{Closed, Bad, Whole}
use Rattle.ldar_journal.specs.declared.opening.OpenWhy.{OpenWhy}
use Rattle.ldar_journal.specs.declared.window.TheConstants.{PIECE}
use Rattle.ldar_journal.specs.FrameAt.{IsFrameOf, HasNoFrame}
use Rattle.ldar_journal.specs.Image.{header, frame, batches_of, IsFrame, IsFront, OpensTo}
use Rattle.ldar_journal.specs.Damage.{OnNotAJournal, IfDamaged, IsDamagedAt}
use Rattle.ldar_journal.specs.Known.{IsKnown}
use Rattle.ldar_journal.specs.Shelf.{IsCounted}
use Rattle.ldar_journal.specs.Window.{WindowState, IsAhead}

-- the bytes are unchanged and open to these frames
abbrev pub IsOpened : Option (List ℕ) → Option (List ℕ) → List (List Batch) → Type 0
IsOpened old new frames = BothTold old new (λ old new. (new ≡ old) × OpensTo old frames)

-- the bytes are unchanged, and the reason why they are no journal
pub record IsRefused (old new : Option (List ℕ)) (why : OpenWhy) : Type 0 where
  pub unchanged : BothTold old new (λ old new. new ≡ old)
  pub not_a_journal : OnNotAJournal (Told old (λ bytes. take 16 bytes ≢ header)) why
  pub damaged : IfDamaged (λ at. Told old (λ bytes. IsDamagedAt bytes at)) why

-- a journal that is being read, in contracts: its disk, the frames read so far, the identities of their batches, and whether the closed
-- gate after them was reached
pub record OpeningState (D : Type 0) : Type 0 where
  pub disk : D
  pub frames : List (List Batch)
  pub identities : List Identity
  pub ended : Bool

-- a closed gate is at the place
pub record IsClosedAt (bytes : List ℕ) (place : ℕ) : Type 0 where
  pub within : place < length bytes
  pub closed : slice_index bytes place ≢ 1

-- no frame is at the place, or no gate
pub record IsBadAt (bytes : List ℕ) (place : ℕ) : Type 0 where
  pub open_gate : (place ≡ length bytes) ⊎ (slice_index bytes place ≡ 1)
  pub no_frame : HasNoFrame (drop place bytes)

-- what was found at a place
abbrev pub IsJudged : List ℕ → ℕ → List Batch → Judged → Type 0
IsJudged bytes place batches Closed = IsClosedAt bytes place
IsJudged bytes place batches Bad = IsBadAt bytes place
IsJudged bytes place batches (Whole used) = IsFrameOf (drop place bytes) batches used

-- a frame of this many bytes was found; it has at most `most` bytes
abbrev pub IfWhole : List Batch → ℕ → Judged → Type 0
IfWhole batches most Closed = Unit {0}
IfWhole batches most Bad = Unit {0}
IfWhole batches most (Whole used) = IsFrame batches × (used ≡ length (frame batches)) × (used ≤ most)

-- the frames are before the place, and the window has the bytes from the place on
pub record IsBehind (bytes : List ℕ) (place : ℕ) (frames : List (List Batch)) (window : List ℕ) : Type 0 where
  pub within : place ≤ length bytes
  pub front : IsFront (take place bytes) frames
  pub ahead : IsAhead place window bytes

-- the state while a journal is read: its disk is stable, these frames are before the place, and the window has the bytes from the place on
pub record IsReading (content : Option (List ℕ)) (images : List ℕ → Type 0) (place : ℕ) (frames : List (List Batch)) (window : List ℕ) : Type 0 where
  pub behind : Told content (λ bytes. IsBehind bytes place frames window)
  pub durable : Told content (λ bytes. Only bytes images)
  pub counted : IsCounted place frames

-- the state after the header: the disk is stable, the window has the bytes after the header, and no identity is known
pub record IsStarted (content : Option (List ℕ)) (images : List ℕ → Type 0) (window : WindowState) (positions : PositionsState) : Type 0 where
  pub behind : Told content (λ bytes. IsBehind bytes 16 [] window.bytes)
  pub durable : Told content (λ bytes. Only bytes images)
  pub size : window.size ≡ PIECE
  pub none : positions.identities ≡ []
