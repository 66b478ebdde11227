-- A mirror over an opened journal: its run, and what a crash leaves of it.
use Rattle.std.proofs.Common.{◌≡◌, ◌⊎◌, inl, inr, ℕ, ◌≤◌, Option, Some, None, List, [], ◌++◌, length, IsTrue, refl, sym, ◌∙◌, ap, subst, arith}
use Rattle.std.proofs.lemmas.List.{append-nil, length-take-le}
use Rattle.disk_model.specs.Images.{Only}
use Rattle.disk_model.specs.Keeps.{Keeps}
use Rattle.disk_model.specs.Told.{Told}
use Rattle.fact_kinds.specs.declared.batch.Batch.{Batch}
use Rattle.ldar_journal.specs.Crash.{LeavesOnly, OnDisk}
use Rattle.ldar_journal.specs.Image.{batches_of, Opens, OpensTo}
use Rattle.ldar_journal.specs.Opening.{IsOpened}
use Rattle.ldar_journal.specs.Shelf.{Shelf}
use Rattle.ldar_law.specs.Verdicts.{is_ruly}
use Rattle.ldar_ports.specs.Sink.{Piece}
use Rattle.ldar_ports.specs.Source.{Takes}
use Rattle.ldar_session.specs.Served.{items_of}
use Rattle.ldar_ports.specs.declared.ended.Ended.TheVariants as inputs
use Rattle.office_mirror.specs.declared.ended.MirrorEnded.{MirrorEnded}
use Rattle.office_mirror.specs.declared.ended.MirrorEnded.TheVariants.{Ended, Stranger}
use Rattle.office_mirror.specs.MirrorEnds.{EndsMirror}
use Rattle.office_mirror.specs.MirrorRun.{Take, IsOfAnswer, TakesAnswers, served_of}
use Rattle.office_book.specs.Safe.{StandsIn, state_of}
use Rattle.office_mirror.specs.Fronts.{IsFrontOf, IsMirrorOf, HoldsFront}
use Rattle.office_commands.specs.declared.status.Status.{Status}
use Rattle.office_commands.specs.Mirrors.{MirrorRun, ClosesMirror, LeavesFronts, IsMirrored, status_mirrored}
use Rattle.office_commands.specs.Scene.{SeenDisk, Streams, seen}
use Rattle.office_commands.specs.Statuses.{HasCause}
use Rattle.office_commands.proofs.ConnectionLemmas.{served_with, run_keeps_disk}
use Rattle.office_commands.proofs.EndLemmas.{ended_cause}

-- an image with a front of a history
front_held : (all history : List Batch) (image : List ℕ) → IsFrontOf all history → Opens image history → HoldsFront all (length history) image
front_held all history image front opens = record {
  count = front.count;
  low = let within = front.within in omega (arith, ap length front.is, length-take-le front.count all within);
  within = front.within;
  opens = subst (Opens image) front.is opens;
}

-- .. has some front
some_front : (all : List Batch) (n : ℕ) (image : List ℕ) → HoldsFront all n image → HoldsFront all 0 image
some_front all n image holds = record { count = holds.count; low = omega arith; within = holds.within; opens = holds.opens }

-- a mirror reports a read or write error only for one, and no error of the disk or the filing
pub mirrored_cause : (ended : MirrorEnded) (status : Status) (input output disk filing : Type 0) → status ≡ status_mirrored ended
    → (ended ≡ Ended inputs.ReadFault → input) → (ended ≡ Ended inputs.WriteFault → output) → HasCause status input output disk filing
mirrored_cause (Ended ended) status input output disk filing is read write =
    ended_cause ended status input output disk filing is (λ e. read (ap (λ x. Ended x) e)) (λ e. write (ap (λ x. Ended x) e))
mirrored_cause (Stranger index) status input output disk filing is read write = (
  λ told. absurd (let clash = sym told ∙ is in cc),
  λ told. absurd (let clash = sym told ∙ is in cc),
  λ told. absurd (let clash = sym told ∙ is in cc),
  λ told. absurd (let clash = sym told ∙ is in cc),
)

module _ {D : Type 0} (content_of : D → Option (List ℕ)) (images_of : D → List ℕ → Type 0) (left_of : D → ℕ → List ℕ → Type 0)
    (clock_of name_of faults_of : D → ℕ) (only_now : (d : D) (c : List ℕ) → left_of d (clock_of d) c → images_of d c)
    (since_earlier : (d : D) (s t : ℕ) (c : List ℕ) → s ≤ t → left_of d t c → left_of d s c) where
  -- what is seen of the disk
  abbrev look : D → SeenDisk
  look = seen content_of images_of left_of clock_of faults_of

  -- what a crash leaves of a mirror over a disk that exposes its bytes
  leaves_fronts : (all : List Batch) (run : MirrorRun) (old : D) (start end : Shelf D) (bytes same : List ℕ) → run.before ≡ batches_of start.frames
      → same ≡ bytes → OpensTo bytes start.frames → Only same (images_of start.disk) → IsFrontOf all (batches_of start.frames)
      → LeavesOnly clock_of left_of old start.disk (images_of old) → clock_of old ≤ clock_of start.disk
      → LeavesOnly clock_of left_of start.disk end.disk (HoldsFront all (length (batches_of start.frames)))
      → ((image : List ℕ) → images_of old image → HoldsFront all 0 image)
      → LeavesFronts all run (look old) (look end.disk) (clock_of start.disk)
  leaves_fronts all run old start end bytes same begins is opens only front entry later leaves held =
      let history = batches_of start.frames in
      let opened : (image : List ℕ) → images_of start.disk image → HoldsFront all (length history) image =
      λ image now. front_held all history image front
      (start.frames, refl, subst (λ (l : List ℕ). OpensTo l start.frames) (sym (only.no_other image now ∙ is)) opens) in
      record {
        any_moment = λ image left. elim (leaves.since (clock_of old) image later left) [
          | inl before ↦ elim (entry.since (clock_of old) image (omega arith) before) [
            | inl earlier ↦ held image (only_now old image earlier)
            | inr now ↦ held image now
          ]
          | inr holds ↦ some_front all (length history) image holds
        ];
        since = λ image left. subst (λ (h : List Batch). HoldsFront all (length h) image) (sym begins)
            (elim (leaves.since (clock_of start.disk) image (omega arith) left) [
              | inl before ↦ opened image (only_now start.disk image before)
              | inr holds ↦ holds
            ]);
      }

  -- .. and where it does not
  fronts_told : (all : List Batch) (run : MirrorRun) (old : D) (start end : Shelf D) (x y : Option (List ℕ)) → run.before ≡ batches_of start.frames
      → IsOpened x y start.frames → Told y (λ bytes. Only bytes (images_of start.disk)) → IsFrontOf all (batches_of start.frames)
      → LeavesOnly clock_of left_of old start.disk (images_of old) → clock_of old ≤ clock_of start.disk
      → Told y (λ _. LeavesOnly clock_of left_of start.disk end.disk (HoldsFront all (length (batches_of start.frames))))
      → ((image : List ℕ) → images_of old image → HoldsFront all 0 image)
      → Told x (λ _. LeavesFronts all run (look old) (look end.disk) (clock_of start.disk))
  fronts_told all run old start end None y begins opened only front entry later leaves held = tt
  fronts_told all run old start end (Some x) None begins opened only front entry later leaves held = absurd opened
  fronts_told all run old start end (Some x) (Some y) begins opened only front entry later leaves held =
      leaves_fronts all run old start end x y begins opened.0 opened.1 only front entry later leaves held

  -- a mirror over an opened disk, which is handed back
  pub is_mirrored : (old new : D) (start end : Shelf D) (status : Status) (ended : MirrorEnded) (at at' : Streams) (takes : List Take) (rest unsaid : List ℕ)
      → IsOpened (content_of old) (content_of start.disk) start.frames → start.doubt ≡ [] → IsTrue (is_ruly (batches_of start.frames))
      → LeavesOnly clock_of left_of old start.disk (images_of old) → Told (content_of start.disk) (λ bytes. Only bytes (images_of start.disk))
      → Keeps clock_of name_of faults_of old start.disk → status ≡ status_mirrored ended
      → Takes at.unread (items_of (served_of takes) ++ rest) at'.unread
      → TakesAnswers content_of left_of clock_of name_of faults_of start end at.pieces at'.pieces takes unsaid
      → EndsMirror ended takes rest at'.unread unsaid → new ≡ end.disk → OnDisk (content_of new) (images_of new) (StandsIn (state_of end))
      → IsMirrored status at at' (look old) (look new)
  is_mirrored old new start end status ended at at' takes rest unsaid opened settled ruly entry only keeps tells read taken ends same stands =
      let history = batches_of start.frames in
      let run : MirrorRun = record { ended = ended; takes = takes; before = history; after = batches_of end.frames } in
      let tied = served_with content_of images_of left_of clock_of name_of faults_of only_now since_earlier IsOfAnswer ClosesMirror old new start end run
      at at' opened settled ruly entry only keeps (served_of takes, rest, unsaid, read, taken.talk, (refl, taken.taken, ends)) same stands in
      record {
        run = run;
        tells = tells;
        connection = tied.0;
        begins = tied.1;
        ends = tied.2;
        mirrors = λ all ruly differ from front held.
            let both = subst (λ (d : List Batch). IsFrontOf all (history ++ d)) (sym settled) (subst (IsFrontOf all) (sym (append-nil history)) front) in
            let state : IsMirrorOf all (state_of start) = record { history = front; doubt = both } in
            let kept = taken.mirrors all ruly differ state from in
            record {
              told = kept.1;
              kept = kept.0.mirror.history;
              grows = kept.0.grows;
              images = subst (λ (t : ℕ). Told (content_of old) (λ _. LeavesFronts all run (look old) (look new) t)) (sym tied.3)
                  (subst (λ (d : D). Told (content_of old) (λ _. LeavesFronts all run (look old) (look d) (clock_of start.disk))) (sym same)
                  (fronts_told all run old start end (content_of old) (content_of start.disk) refl opened only front entry keeps.time kept.0.images held));
            };
      }

  -- it keeps what each call of a disk keeps
  pub mirror_keeps : (start end : Shelf D) (pieces pieces' : Option (List Piece)) (takes : List Take) (unsaid : List ℕ)
      → TakesAnswers content_of left_of clock_of name_of faults_of start end pieces pieces' takes unsaid
      → Keeps clock_of name_of faults_of start.disk end.disk
  mirror_keeps start end pieces pieces' takes unsaid taken =
      run_keeps_disk content_of images_of left_of clock_of name_of faults_of only_now since_earlier start end taken.talk.stretch.calls
      taken.talk.stretch.run
