-- The state of an office after each call of its journal.
use Rattle.std.proofs.Common.{◌≡◌, ◌≢◌, inl, inr, ℕ, ◌+◌, ◌≤◌, Option, List, [], ◌∷◌, ◌++◌, length, take, refl, sym}
use Rattle.std.proofs.Common.{◌∙◌, ap, subst, arith, append_assoc, length-append}
use Rattle.std.specs.Prelude.{IsTrue}
use Rattle.std.proofs.lemmas.List.{append-nil, take_all}
use Rattle.disk_model.specs.Keeps.{Keeps}
use Rattle.disk_model.specs.Told.{Told, BothTold}
use Rattle.fact_kinds.specs.declared.batch.Batch.{Batch}
use Rattle.ldar_journal.specs.Crash.{LeavesOnly, OnDisk}
use Rattle.ldar_journal.specs.Image.{batches_of, IsKept, OpensTo}
use Rattle.ldar_journal.specs.Shelf.{Shelf, OpensToEither, OpensAs}
use Rattle.ldar_journal.proofs.CrashLemmas.{OnDisk-weaker}
use Rattle.ldar_journal.proofs.Histories.{batches_of-push, IsKept-front}
use Rattle.ldar_law.specs.Verdicts.{is_ruly}
use Rattle.ldar_law.proofs.VerdictLemmas.{ruly_is_each}
use Rattle.office_book.specs.Archive.{MayCome}
use Rattle.office_book.specs.Kept.{IsBook}
use Rattle.office_book.specs.Moves.{Moves}
use Rattle.office_book.specs.Safe.{StandsIn, state_of, frames_written}
use Rattle.office_book.specs.Serving.{certain, uncertain}
use Rattle.office_book.proofs.MoveLemmas.{stands_either, stands_as, moves_by}
use Rattle.office_views.specs.Held.{Held}

-- ---- histories

-- a prefix of a ruly history is ruly
ruly_front : (history more : List Batch) → IsTrue (is_ruly (history ++ more)) → IsTrue (is_ruly history)
ruly_front history more ruly =
    (ruly_is_each history).1 (λ before batch after stands.
    (ruly_is_each (history ++ more)).0 ruly before batch (after ++ more) (ap (λ (l : List Batch). l ++ more) stands ∙ append_assoc before (batch ∷ after) more))

-- without the batches that may follow
pub may_stay : (history more : List Batch) → MayCome history more → MayCome history []
may_stay history more may = record {
  kept = subst (λ (l : List Batch). IsKept l) (sym (append-nil history)) (IsKept-front history more may.kept);
  ruly = subst (λ (l : List Batch). IsTrue (is_ruly l)) (sym (append-nil history)) (ruly_front history more may.ruly);
}

-- with the batches that may follow
pub may_join : (history more : List Batch) → MayCome history more → MayCome (history ++ more) []
may_join history more may = record {
  kept = subst (λ (l : List Batch). IsKept l) (sym (append-nil (history ++ more))) may.kept;
  ruly = subst (λ (l : List Batch). IsTrue (is_ruly l)) (sym (append-nil (history ++ more))) may.ruly;
}

-- a non-empty list of batches has at least one
some_in : (batches : List Batch) → batches ≢ [] → 1 ≤ length batches
some_in [] some = absurd (some refl)
some_in (batch ∷ batches) some = omega arith

-- ---- the state of an office

-- the state of a journal with nothing in doubt, and with batches in doubt
pub certain_state : {D : Type 0} (journal : Shelf D) (history : List Batch) → batches_of journal.frames ≡ history → journal.doubt ≡ []
    → state_of journal ≡ certain history
certain_state journal history same none =
    ap (λ (l : List Batch). uncertain l journal.doubt) same ∙ ap (λ (l : List Batch). uncertain history l) none

-- the state of a journal with batches in doubt
pub doubtful_state : {D : Type 0} (journal : Shelf D) (history doubt : List Batch) → batches_of journal.frames ≡ history → journal.doubt ≡ doubt
    → state_of journal ≡ uncertain history doubt
doubtful_state journal history doubt same is =
    ap (λ (l : List Batch). uncertain l journal.doubt) same ∙ ap (λ (l : List Batch). uncertain history l) is

-- the state of a journal with one more frame
pub added_state : {D : Type 0} (old new : Shelf D) (batches : List Batch) → new.frames ≡ old.frames ++ batches ∷ [] → new.doubt ≡ []
    → state_of new ≡ certain (batches_of old.frames ++ batches)
added_state old new batches frames none =
    certain_state new (batches_of old.frames ++ batches) (ap batches_of frames ∙ batches_of-push old.frames batches) none

module _ {D : Type 0} (content_of : D → Option (List ℕ)) (images_of : D → List ℕ → Type 0) where
  pub stands_on : (journal : Shelf D) → OnDisk (content_of journal.disk) (images_of journal.disk) (λ image. OpensAs image journal.frames journal.doubt)
      → OnDisk (content_of journal.disk) (images_of journal.disk) (StandsIn (state_of journal))
  stands_on journal opens = OnDisk-weaker _ _ (λ image. stands_as image journal.frames journal.doubt) (content_of journal.disk) (images_of journal.disk) opens

  -- with nothing in doubt
  pub book_settled : (journal : Shelf D) (archive : Held) (copies : List Batch) → journal.doubt ≡ [] → MayCome (batches_of journal.frames) []
      → archive.adopted ≡ batches_of journal.frames → copies ≡ []
      → OnDisk (content_of journal.disk) (images_of journal.disk) (StandsIn (state_of journal)) → IsBook content_of images_of journal archive copies
  book_settled journal archive copies none may adopted empty stands = record {
    may_come = subst (λ (d : List Batch). MayCome (batches_of journal.frames) d) (sym none) may;
    adopted = adopted;
    roomy = subst (λ (d : List Batch). take (length d) archive.spare ≡ d) (sym none) refl;
    copied = empty ∙ sym none;
    stands = stands;
  }

  -- with batches in doubt
  pub book_doubtful : (journal : Shelf D) (archive : Held) (copies doubt : List Batch) → journal.doubt ≡ doubt → MayCome (batches_of journal.frames) doubt
      → archive.adopted ≡ batches_of journal.frames → archive.spare ≡ doubt → copies ≡ doubt
      → OnDisk (content_of journal.disk) (images_of journal.disk) (StandsIn (state_of journal)) → IsBook content_of images_of journal archive copies
  book_doubtful journal archive copies doubt is may adopted spare copied stands = record {
    may_come = subst (λ (d : List Batch). MayCome (batches_of journal.frames) d) (sym is) may;
    adopted = adopted;
    roomy = subst (λ (d : List Batch). take (length d) archive.spare ≡ d) (sym is)
        (take_all (length doubt) archive.spare (let long = ap length spare in omega arith) ∙ spare);
    copied = copied ∙ sym is;
    stands = stands;
  }

  -- a failed settling does not change it
  pub book_still : (old new : Shelf D) (archive : Held) (copies : List Batch) → IsBook content_of images_of old archive copies
      → new.frames ≡ old.frames → new.doubt ≡ old.doubt
      → OnDisk (content_of new.disk) (images_of new.disk) (λ image. OpensAs image new.frames new.doubt) → IsBook content_of images_of new archive copies
  book_still old new archive copies book frames doubt opens = record {
    may_come = subst (λ (d : List Batch). MayCome (batches_of new.frames) d) (sym doubt)
        (subst (λ (l : List (List Batch)). MayCome (batches_of l) old.doubt) (sym frames) book.may_come);
    adopted = book.adopted ∙ ap batches_of (sym frames);
    roomy = subst (λ (d : List Batch). take (length d) archive.spare ≡ d) (sym doubt) book.roomy;
    copied = book.copied ∙ sym doubt;
    stands = stands_on new opens;
  }

  -- batches in doubt that are gone
  pub book_gone : (old new : Shelf D) (archive : Held) (copies left : List Batch) → IsBook content_of images_of old archive copies
      → new.frames ≡ old.frames → new.doubt ≡ [] → left ≡ []
      → OnDisk (content_of new.disk) (images_of new.disk) (λ image. OpensAs image new.frames new.doubt) → IsBook content_of images_of new archive left
  book_gone old new archive copies left book frames none empty opens =
      book_settled new archive left none
      (subst (λ (l : List (List Batch)). MayCome (batches_of l) []) (sym frames) (may_stay (batches_of old.frames) old.doubt book.may_come))
      (book.adopted ∙ ap batches_of (sym frames)) empty (stands_on new opens)

  module _ (left_of : D → ℕ → List ℕ → Type 0) (clock_of name_of faults_of : D → ℕ) where
    -- the effect of a settling
    settle_moves : (old new : Shelf D) → frames_written new ≤ frames_written old + 0 → Keeps clock_of name_of faults_of old.disk new.disk
        → BothTold (content_of old.disk) (content_of new.disk) (λ old new. new ≡ old)
        → LeavesOnly clock_of left_of old.disk new.disk (λ image. Told (content_of old.disk) (λ _. OpensToEither image old.frames old.doubt))
        → OnDisk (content_of new.disk) (images_of new.disk) (λ image. OpensAs image new.frames new.doubt)
        → Moves content_of images_of left_of clock_of name_of faults_of old new 0
    settle_moves old new few keeps same leaves opens =
        moves_by content_of images_of left_of clock_of name_of faults_of old new 0 (λ image. OpensToEither image old.frames old.doubt) (λ old new. new ≡ old)
        (λ image either. inl (stands_either image old.frames old.doubt either)) keeps same few leaves opens

    pub moves_still : (old new : Shelf D) → new.frames ≡ old.frames → new.doubt ≡ old.doubt → Keeps clock_of name_of faults_of old.disk new.disk
        → BothTold (content_of old.disk) (content_of new.disk) (λ old new. new ≡ old)
        → LeavesOnly clock_of left_of old.disk new.disk (λ image. Told (content_of old.disk) (λ _. OpensToEither image old.frames old.doubt))
        → OnDisk (content_of new.disk) (images_of new.disk) (λ image. OpensAs image new.frames new.doubt)
        → Moves content_of images_of left_of clock_of name_of faults_of old new 0
    moves_still old new frames doubt =
        let many = ap length frames in
        let long = ap length doubt in
        settle_moves old new (omega arith)

    pub moves_gone : (old new : Shelf D) → new.frames ≡ old.frames → new.doubt ≡ [] → Keeps clock_of name_of faults_of old.disk new.disk
        → BothTold (content_of old.disk) (content_of new.disk) (λ old new. new ≡ old)
        → LeavesOnly clock_of left_of old.disk new.disk (λ image. Told (content_of old.disk) (λ _. OpensToEither image old.frames old.doubt))
        → OnDisk (content_of new.disk) (images_of new.disk) (λ image. OpensAs image new.frames new.doubt)
        → Moves content_of images_of left_of clock_of name_of faults_of old new 0
    moves_gone old new frames none =
        let many = ap length frames in
        let long : length new.doubt ≡ 0 = ap length none in
        settle_moves old new (omega arith)

    pub moves_stand : (old new : Shelf D) → old.doubt ≢ [] → new.frames ≡ old.frames ++ old.doubt ∷ [] → new.doubt ≡ []
        → Keeps clock_of name_of faults_of old.disk new.disk
        → BothTold (content_of old.disk) (content_of new.disk) (λ old new. new ≡ old)
        → LeavesOnly clock_of left_of old.disk new.disk (λ image. Told (content_of old.disk) (λ _. OpensToEither image old.frames old.doubt))
        → OnDisk (content_of new.disk) (images_of new.disk) (λ image. OpensAs image new.frames new.doubt)
        → Moves content_of images_of left_of clock_of name_of faults_of old new 0
    moves_stand old new doubt frames none =
        let many = ap length frames in
        let one_more = length-append old.frames (old.doubt ∷ []) in
        let long : length new.doubt ≡ 0 = ap length none in
        let some = some_in old.doubt doubt in
        settle_moves old new (omega arith)

    -- a frame that is kept
    pub moves_added : (old new : Shelf D) (batches : List Batch) → new.frames ≡ old.frames ++ batches ∷ [] → new.doubt ≡ []
        → Keeps clock_of name_of faults_of old.disk new.disk
        → BothTold (content_of old.disk) (content_of new.disk) (λ old new. length old ≤ length new)
        → LeavesOnly clock_of left_of old.disk new.disk (λ image. Told (content_of old.disk) (λ _. OpensToEither image old.frames batches))
        → OnDisk (content_of new.disk) (images_of new.disk) (λ image. OpensAs image new.frames new.doubt)
        → Moves content_of images_of left_of clock_of name_of faults_of old new 1
    moves_added old new batches frames none keeps grows leaves opens =
        let many = ap length frames in
        let one_more = length-append old.frames (batches ∷ []) in
        let long : length new.doubt ≡ 0 = ap length none in
        moves_by content_of images_of left_of clock_of name_of faults_of old new 1 (λ image. OpensToEither image old.frames batches)
        (λ old new. length old ≤ length new)
        (λ image either. elim either [
          | inl before ↦ inl (inl (old.frames, refl, before))
          | inr after ↦ inr (inl (new.frames, refl, subst (λ (l : List (List Batch)). OpensTo image l) (sym frames) after))
        ]) keeps grows (omega arith) leaves opens

    -- a frame in doubt
    pub moves_torn : (old new : Shelf D) (batches : List Batch) → old.doubt ≡ [] → new.frames ≡ old.frames → new.doubt ≡ batches
        → Keeps clock_of name_of faults_of old.disk new.disk
        → BothTold (content_of old.disk) (content_of new.disk) (λ old new. length old ≤ length new)
        → LeavesOnly clock_of left_of old.disk new.disk (λ image. Told (content_of old.disk) (λ _. OpensToEither image old.frames batches))
        → OnDisk (content_of new.disk) (images_of new.disk) (λ image. OpensAs image new.frames new.doubt)
        → Moves content_of images_of left_of clock_of name_of faults_of old new 1
    moves_torn old new batches none frames doubt keeps grows leaves opens =
        let many = ap length frames in
        moves_by content_of images_of left_of clock_of name_of faults_of old new 1 (λ image. OpensToEither image old.frames batches)
        (λ old new. length old ≤ length new)
        (λ image either. inr (stands_either image new.frames new.doubt
        (subst (λ (d : List Batch). OpensToEither image new.frames d) (sym doubt)
        (subst (λ (l : List (List Batch)). OpensToEither image l batches) (sym frames) either)))) keeps grows (omega arith) leaves opens

    -- a frame that is not written
    pub moves_shut : (old new : Shelf D) → old.doubt ≡ [] → new.frames ≡ old.frames → new.doubt ≡ [] → Keeps clock_of name_of faults_of old.disk new.disk
        → BothTold (content_of old.disk) (content_of new.disk) (λ old new. length old ≤ length new)
        → LeavesOnly clock_of left_of old.disk new.disk (λ image. Told (content_of old.disk) (λ _. OpensTo image old.frames))
        → OnDisk (content_of new.disk) (images_of new.disk) (λ image. OpensAs image new.frames new.doubt)
        → Moves content_of images_of left_of clock_of name_of faults_of old new 1
    moves_shut old new none frames settled keeps grows leaves opens =
        let many = ap length frames in
        let long : length new.doubt ≡ 0 = ap length settled in
        moves_by content_of images_of left_of clock_of name_of faults_of old new 1 (λ image. OpensTo image old.frames) (λ old new. length old ≤ length new)
        (λ image before. inl (inl (old.frames, refl, before))) keeps grows (omega arith) leaves opens
