-- How commands end: what was not opened, what was shown, and which statuses report which faults.
use Rattle.std.proofs.Common.{◌≡◌, ◌<◌, ℕ, Option, length, List, [], ◌∷◌, ◌++◌, IsTrue, refl, sym, subst}
use Rattle.disk_model.specs.Told.{BothTold, Told}
use Rattle.disk_model.proofs.ToldLemmas.{BothTold-weaker, Told-weaker}
use Rattle.ldar_journal.specs.Crash.{LeavesOnly, OnDisk}
use Rattle.ldar_journal.specs.Image.{header, batches_of, Opens, OpensTo}
use Rattle.ldar_journal.specs.Opening.{IsOpened as HasFrames}
use Rattle.ldar_journal.specs.Shelf.{Shelf}
use Rattle.ldar_journal.proofs.CrashLemmas.{OnDisk-weaker}
use Rattle.ldar_journal.proofs.CreationLemmas.{empty_opens}
use Rattle.ldar_law.specs.Verdicts.{is_ruly}
use Rattle.office_book.specs.declared.opening.BookWhy.{BookWhy}
use Rattle.office_book.specs.declared.opening.BookWhy.TheVariants as reasons
use Rattle.office_book.specs.Opened.{IsNoBook}
use Rattle.ldar_ports.specs.declared.ended.Ended.{Ended}
use Rattle.ldar_ports.specs.declared.ended.Ended.TheVariants as ends
use Rattle.office_commands.specs.declared.status.Status.{Status}
use Rattle.office_commands.specs.declared.status.Status.TheVariants.{Done, NotEmpty}
use Rattle.office_commands.specs.declared.command.Question.{Question}
use Rattle.office_commands.specs.Run.{Answers, AreSealsShown, IsAnswered, IsMade, IsNotOpened, InitEnds}
use Rattle.office_commands.specs.Scene.{Streams, LeavesAlone, MayLeave, seen}
use Rattle.office_commands.specs.SealViews.{ShowsSeals}
use Rattle.office_commands.specs.Statuses.{HasCause, refusal_of, status_of}
use Rattle.office_commands.proofs.ConnectionLemmas.{opens_history, opened_stays}

-- ---- which statuses report which faults

-- a cause follows from its premise
pub cause_by : (status : Status) (input input' output output' disk disk' filing filing' : Type 0) → (input → input') → (output → output')
    → (disk → disk') → (filing → filing') → HasCause status input output disk filing → HasCause status input' output' disk' filing'
cause_by status input input' output output' disk disk' filing filing' one two three four has =
    (λ is. one (has.0 is), λ is. two (has.1 is), λ is. three (has.2 is), λ is. four (has.3 is))

-- a command whose journal was not opened reports a fault of the disk only for one, and no other fault
refused_by : (why : BookWhy) (input output disk filing : Type 0) → (why ≡ reasons.Disk → disk)
    → HasCause (refusal_of why) input output disk filing
refused_by reasons.Disk input output disk filing cause = (λ told. absurd cc, λ told. absurd cc, λ told. cause refl, λ told. absurd cc)
refused_by reasons.NotAJournal input output disk filing cause = (λ told. absurd cc, λ told. absurd cc, λ told. absurd cc, λ told. absurd cc)
refused_by (reasons.Damaged at) input output disk filing cause = (λ told. absurd cc, λ told. absurd cc, λ told. absurd cc, λ told. absurd cc)
refused_by (reasons.Unruly position rule) input output disk filing cause = (λ told. absurd cc, λ told. absurd cc, λ told. absurd cc, λ told. absurd cc)
refused_by reasons.Memory input output disk filing cause = (λ told. absurd cc, λ told. absurd cc, λ told. absurd cc, λ told. absurd cc)

pub refused_cause : (why : BookWhy) (status : Status) (input output disk filing : Type 0) → status ≡ refusal_of why → (why ≡ reasons.Disk → disk)
    → HasCause status input output disk filing
refused_cause why status input output disk filing is cause =
    subst (λ (s : Status). HasCause s input output disk filing) (sym is) (refused_by why input output disk filing cause)

-- a command whose connection ended reports a fault of reading or writing only for one, and none of the disk or the filing
ended_by : (ended : Ended) (input output disk filing : Type 0) → (ended ≡ ends.ReadFault → input) → (ended ≡ ends.WriteFault → output)
    → HasCause (status_of ended) input output disk filing
ended_by ends.Done input output disk filing read write = (λ told. absurd cc, λ told. absurd cc, λ told. absurd cc, λ told. absurd cc)
ended_by ends.Stopped input output disk filing read write = (λ told. absurd cc, λ told. absurd cc, λ told. absurd cc, λ told. absurd cc)
ended_by (ends.CutShort got) input output disk filing read write = (λ told. absurd cc, λ told. absurd cc, λ told. absurd cc, λ told. absurd cc)
ended_by (ends.Refused at) input output disk filing read write = (λ told. absurd cc, λ told. absurd cc, λ told. absurd cc, λ told. absurd cc)
ended_by ends.ReadFault input output disk filing read write = (λ told. read refl, λ told. absurd cc, λ told. absurd cc, λ told. absurd cc)
ended_by ends.WriteFault input output disk filing read write = (λ told. absurd cc, λ told. write refl, λ told. absurd cc, λ told. absurd cc)
ended_by ends.Memory input output disk filing read write = (λ told. absurd cc, λ told. absurd cc, λ told. absurd cc, λ told. absurd cc)

pub ended_cause : (ended : Ended) (status : Status) (input output disk filing : Type 0) → status ≡ status_of ended → (ended ≡ ends.ReadFault → input)
    → (ended ≡ ends.WriteFault → output) → HasCause status input output disk filing
ended_cause ended status input output disk filing is read write =
    subst (λ (s : Status). HasCause s input output disk filing) (sym is) (ended_by ended input output disk filing read write)

-- ---- the journal

module _ {D : Type 0} (content_of : D → Option (List ℕ)) (images_of : D → List ℕ → Type 0) (left_of : D → ℕ → List ℕ → Type 0)
    (clock_of faults_of : D → ℕ) where
  -- a journal that was not opened
  pub not_opened : (old new : D) (why : BookWhy) (status : Status) → IsNoBook (content_of old) (content_of new) why
      → LeavesOnly clock_of left_of old new (images_of old) → status ≡ refusal_of why
      → IsNotOpened status (seen content_of images_of left_of clock_of faults_of old) (seen content_of images_of left_of clock_of faults_of new)
  not_opened old new why status refused leaves is = record {
    why = why;
    tells = is;
    reason = refused.reason;
    alone = record { unchanged = refused.unchanged; leaves = record { since = leaves.since } };
  }

  -- a journal that was opened and handed back is unchanged
  handed_back : (old new : D) (start : Shelf D) → HasFrames (content_of old) (content_of start.disk) start.frames
      → LeavesOnly clock_of left_of old start.disk (images_of old) → new ≡ start.disk
      → LeavesAlone (seen content_of images_of left_of clock_of faults_of old) (seen content_of images_of left_of clock_of faults_of new)
  handed_back old new start opened leaves same =
      subst (λ (d : D). LeavesAlone (seen content_of images_of left_of clock_of faults_of old) (seen content_of images_of left_of clock_of faults_of d))
      (sym same)
      (record { unchanged = opened_stays (content_of old) (content_of start.disk) start.frames opened; leaves = record { since = leaves.since } })

  -- a question of such a journal was answered
  pub is_answered : (question : Question) (status : Status) (at at' : Streams) (old new : D) (start : Shelf D)
      → HasFrames (content_of old) (content_of start.disk) start.frames → IsTrue (is_ruly (batches_of start.frames))
      → LeavesOnly clock_of left_of old start.disk (images_of old) → new ≡ start.disk → at'.unread ≡ at.unread
      → Answers question (batches_of start.frames) status at.filed at'.filed at.pieces at'.pieces
      → IsAnswered question status at at' (seen content_of images_of left_of clock_of faults_of old) (seen content_of images_of left_of clock_of faults_of new)
  is_answered question status at at' old new start opened ruly leaves same unread ends = record {
    history = batches_of start.frames;
    opened = record { opens = opens_history (content_of old) (content_of start.disk) start.frames opened; ruly = ruly };
    unread = unread;
    ends = ends;
    alone = handed_back old new start opened leaves same;
  }

  -- .. or the pumps that a seal file names were shown
  pub are_shown : (unit day : ℕ) (status : Status) (at at' : Streams) (old new : D) (start : Shelf D)
      → HasFrames (content_of old) (content_of start.disk) start.frames → IsTrue (is_ruly (batches_of start.frames))
      → LeavesOnly clock_of left_of old start.disk (images_of old) → new ≡ start.disk → ShowsSeals unit day (batches_of start.frames) status at at'
      → AreSealsShown unit day status at at' (seen content_of images_of left_of clock_of faults_of old)
      (seen content_of images_of left_of clock_of faults_of new)
  are_shown unit day status at at' old new start opened ruly leaves same shows = record {
    history = batches_of start.frames;
    opened = record { opens = opens_history (content_of old) (content_of start.disk) start.frames opened; ruly = ruly };
    shows = shows;
    alone = handed_back old new start opened leaves same;
  }

  -- how the making of a journal ended
  pub is_made : (status : Status) (old new : D) → InitEnds status (content_of old) (content_of new)
      → (status ≡ Done → OnDisk (content_of new) (images_of new) (λ image. Opens image []))
      → (status ≡ NotEmpty → LeavesOnly clock_of left_of old new (images_of old))
      → Told (content_of old) (λ bytes. 0 < length bytes → LeavesOnly clock_of left_of old new (images_of old))
      → IsMade status (seen content_of images_of left_of clock_of faults_of old) (seen content_of images_of left_of clock_of faults_of new)
  is_made status old new ends images refused others = record {
    ends = ends;
    images = images;
    refused = λ is. record { since = (refused is).since };
    others =
        Told-weaker (λ (bytes : List ℕ). 0 < length bytes → LeavesOnly clock_of left_of old new (images_of old))
        (λ (bytes : List ℕ). 0 < length bytes → MayLeave (seen content_of images_of left_of clock_of faults_of old)
        (seen content_of images_of left_of clock_of faults_of new) (images_of old))
        (λ bytes leaves some. record { since = (leaves some).since }) (content_of old) others;
  }

-- an image that opens to no frames opens to no history
pub opens_none : (image : List ℕ) → OpensTo image [] → Opens image []
opens_none image opens = ([], refl, opens)

-- .. of a disk
pub images_none : (content : Option (List ℕ)) (images : List ℕ → Type 0) → OnDisk content images (λ image. OpensTo image [])
    → OnDisk content images (λ image. Opens image [])
images_none content images on = OnDisk-weaker (λ image. OpensTo image []) (λ image. Opens image []) opens_none content images on

-- what was laid down on an empty disk
pub laid_down : (old new : Option (List ℕ)) → BothTold old new (λ old new. (old ≡ []) × (new ≡ header ++ 0 ∷ []))
    → BothTold old new (λ old new. (old ≡ []) × Opens new [])
laid_down old new both =
    BothTold-weaker (λ old new. (old ≡ []) × (new ≡ header ++ 0 ∷ [])) (λ old new. (old ≡ []) × Opens new [])
    (λ old new both. (both.0, subst (λ (l : List ℕ). Opens l []) (sym both.1) ([], refl, empty_opens))) old new both
