-- Serving a connection over an opened journal: the run from the opened history, and what a crash at any moment leaves of it.
use Rattle.std.proofs.Common.{◌≡◌, ◌⊎◌, inl, inr, ℕ, ◌≤◌, Option, Some, None, List, []}
use Rattle.std.proofs.Common.{◌∷◌, length, take, drop, IsTrue, MatchOption, refl, sym, ◌∙◌, ap, subst, arith}
use Rattle.std.specs.List.{AllByRecursion}
use Rattle.std.specs.Option.{option_to_list}
use Rattle.list_words.proofs.Members.{all_append}
use Rattle.disk_model.specs.Images.{Only}
use Rattle.disk_model.specs.Keeps.{Keeps}
use Rattle.disk_model.specs.Told.{Told, BothTold}
use Rattle.fact_kinds.specs.declared.batch.Batch.{Batch}
use Rattle.ldar_ports.specs.Sink.{Piece, stamps_of}
use Rattle.ldar_journal.specs.Crash.{LeavesOnly, OnDisk}
use Rattle.ldar_journal.specs.Image.{batches_of, Opens, OpensTo}
use Rattle.ldar_journal.specs.Opening.{IsOpened}
use Rattle.ldar_journal.specs.Shelf.{Shelf}
use Rattle.ldar_journal.proofs.CrashLemmas.{OnDisk-content}
use Rattle.ldar_law.specs.Machine.{State, Moment, Call, Turn, Runs}
use Rattle.ldar_law.specs.Verdicts.{is_ruly}
use Rattle.office_book.specs.Receipts.{AreReceiptsKept, IsReceiptKept}
use Rattle.office_book.specs.Safe.{StandsIn, StandsInRun, IsSafe, Leads, state_of, moment_of}
use Rattle.office_book.proofs.ReceiptLemmas.{receipts_are_behind}
use Rattle.ldar_session.specs.Served.{Served, HasItsClock, Stamped, turns_in, turns_of}
use Rattle.ldar_session.proofs.RunLemmas.{runs_have_clocks}
use Rattle.ldar_session.proofs.StampLemmas.{all_parts}
use Rattle.office_commands.specs.Connection.{AreLinesKept, IsCrashSafe, IsConnection}
use Rattle.office_commands.specs.Scene.{SeenDisk, Streams, seen}
use Rattle.office_commands.specs.Tasks.{Talks}
use Rattle.office_commands.proofs.RulyLemmas.{run_ruly, is_ruly_state}

-- ---- receipts, and the lines that say them

-- what a turn receipted is in each image left since its clock
abbrev IsKeptSince : (ℕ → List ℕ → Type 0) → Turn → Type 0
IsKeptSince left turn = IsReceiptKept (left turn.clock) turn

of_call : (left : ℕ → List ℕ → Type 0) (turns : List Turn) (clock : ℕ) → AllByRecursion (IsReceiptKept (left clock)) turns
    → AllByRecursion (λ (turn : Turn). turn.clock ≡ clock) turns → AllByRecursion (IsKeptSince left) turns
of_call left [] clock kept own = tt
of_call left (turn ∷ turns) clock kept own =
    (subst (λ (n : ℕ). IsReceiptKept (left n) turn) (sym own.0) kept.0, of_call left turns clock kept.1 own.1)

-- the receipts of calls, turn by turn
turns_kept : (left : ℕ → List ℕ → Type 0) (calls : List Call) → AreReceiptsKept left calls → AllByRecursion HasItsClock calls
    → AllByRecursion (IsKeptSince left) (turns_in calls)
turns_kept left [] kept own = tt
turns_kept left (call ∷ calls) kept own =
    all_append (IsKeptSince left) call.turns (turns_in calls) (of_call left call.turns call.end.clock kept.0 own.0) (turns_kept left calls kept.1 own.1)

-- one line, byte by byte
line_kept : (left : ℕ → List ℕ → Type 0) → ((s t : ℕ) (image : List ℕ) → s ≤ t → left t image → left s image)
    → (turn : Option Turn) (stamps : List ℕ) → AllByRecursion (IsKeptSince left) (option_to_list turn)
    → AllByRecursion (λ (stamp : ℕ). MatchOption turn (Unit {0}) (λ (turn : Turn). turn.clock ≤ stamp)) stamps
    → AllByRecursion (λ (stamp : ℕ). MatchOption turn (Unit {0}) (IsReceiptKept (left stamp))) stamps
line_kept left earlier None [] kept since = tt
line_kept left earlier None (stamp ∷ stamps) kept since = (tt, line_kept left earlier None stamps kept since.1)
line_kept left earlier (Some turn) [] kept since = tt
line_kept left earlier (Some turn) (stamp ∷ stamps) kept since = (
  λ batch position receipt image now. kept.0 batch position receipt image (earlier turn.clock stamp image since.0 now),
  line_kept left earlier (Some turn) stamps kept since.1,
)

-- the lines of all that was served
lines_kept : (left : ℕ → List ℕ → Type 0) → ((s t : ℕ) (image : List ℕ) → s ≤ t → left t image → left s image)
    → (served : List Served) (stamps : List ℕ) → AllByRecursion (IsKeptSince left) (turns_of served) → Stamped served stamps
    → AreLinesKept left served stamps
lines_kept left earlier [] stamps kept stamped = tt
lines_kept left earlier (s ∷ served) stamps kept stamped =
    let parts = all_parts (IsKeptSince left) (option_to_list s.turn) (turns_of served) kept in (
      line_kept left earlier s.turn (take (length s.text) stamps) parts.0 stamped.0,
      lines_kept left earlier served (drop (length s.text) stamps) parts.1 stamped.1,
    )

-- ---- what was opened

-- the bytes that were opened open to the history
pub opens_history : (old new : Option (List ℕ)) (frames : List (List Batch)) → IsOpened old new frames → Told old (λ bytes. Opens bytes (batches_of frames))
opens_history None new frames opened = tt
opens_history (Some bytes) None frames opened = absurd opened
opens_history (Some bytes) (Some same) frames opened = (frames, refl, opened.1)

-- the content stays
pub opened_stays : (old new : Option (List ℕ)) (frames : List (List Batch)) → IsOpened old new frames → BothTold old new (λ old new. new ≡ old)
opened_stays None None frames opened = tt
opened_stays None (Some new) frames opened = absurd opened
opened_stays (Some old) None frames opened = absurd opened
opened_stays (Some old) (Some new) frames opened = opened.0

-- what opens in the first state of a run opens in the run
stands_first : (state : State) (calls : List Call) (image : List ℕ) → StandsIn state image → StandsInRun state calls image
stands_first state [] image stands = stands
stands_first state (call ∷ calls) image stands = inl stands

-- a run ends with no fewer faults, and no earlier
pub run_keeps : (calls : List Call) (start end : Moment) → Runs start calls end → (start.faults ≤ end.faults) × (start.clock ≤ end.clock)
run_keeps [] start end run = (run.1, run.2)
run_keeps (call ∷ calls) start end run =
    let count = run.0.count in
    let time = run.0.time in
    let rest = run_keeps calls call.end end run.1 in
    (omega (arith, count.0, count.1, rest.0), omega (arith, time, rest.1))

-- what was opened exposes its bytes to the end
pub tells_to_end : (x y z : Option (List ℕ)) (frames : List (List Batch)) → IsOpened x y frames → BothTold y z (λ _ _. Unit {0})
    → BothTold x z (λ _ _. Unit {0})
tells_to_end None None z frames opened tells = tells
tells_to_end None (Some y) z frames opened tells = absurd opened
tells_to_end (Some x) None z frames opened tells = absurd opened
tells_to_end (Some x) (Some y) None frames opened tells = absurd tells
tells_to_end (Some x) (Some y) (Some z) frames opened tells = tt

-- ---- what a crash leaves

module _ {D : Type 0} (content_of : D → Option (List ℕ)) (images_of : D → List ℕ → Type 0) (left_of : D → ℕ → List ℕ → Type 0)
    (clock_of name_of faults_of : D → ℕ) (only_now : (d : D) (c : List ℕ) → left_of d (clock_of d) c → images_of d c)
    (since_earlier : (d : D) (s t : ℕ) (c : List ℕ) → s ≤ t → left_of d t c → left_of d s c) where
  -- what is seen of the disk
  abbrev look : D → SeenDisk
  look = seen content_of images_of left_of clock_of faults_of

  -- an image of the disk that was opened opens in the state that it was opened to
  opened_stands : (start : Shelf D) (bytes same : List ℕ) → same ≡ bytes → OpensTo bytes start.frames → Only same (images_of start.disk)
      → (image : List ℕ) → images_of start.disk image → StandsIn (state_of start) image
  opened_stands start bytes same is opens only image now =
      subst (λ (l : List ℕ). StandsIn (state_of start) l) (sym (only.no_other image now ∙ is)) (inl (start.frames, refl, opens))

  -- a safe run from an opened disk
  crash_safe : (old : D) (start end : Shelf D) (calls : List Call) (served : List Served) (put : List Piece)
      → ((image : List ℕ) → images_of start.disk image → StandsIn (state_of start) image)
      → LeavesOnly clock_of left_of old start.disk (images_of old) → clock_of old ≤ clock_of start.disk
      → Runs (moment_of clock_of faults_of start) calls (moment_of clock_of faults_of end)
      → IsSafe clock_of left_of start calls end → AreReceiptsKept (left_of end.disk) calls
      → start.doubt ≡ [] → IsTrue (is_ruly (batches_of start.frames))
      → turns_in calls ≡ turns_of served → Stamped served (stamps_of put)
      → ((image : List ℕ) → images_of end.disk image → StandsIn (state_of end) image)
      → IsCrashSafe (look old) (look end.disk) (moment_of clock_of faults_of start) calls (moment_of clock_of faults_of end) served put
  crash_safe old start end calls served put opened entry later runs safe receipts settled ruly turns stamped at_end =
      let moments : (t : ℕ) (image : List ℕ) → t ≤ clock_of old → left_of end.disk t image
      → left_of old t image ⊎ (images_of old image ⊎ StandsInRun (state_of start) calls image) =
      λ t image le left. elim (safe.since.since t image (omega (arith, le, later)) left) [
        | inl before ↦ elim (entry.since t image le before) [ inl earlier ↦ inl earlier | inr now ↦ inr (inl now) ]
        | inr stands ↦ inr (inr stands)
      ] in
      let own = runs_have_clocks (moment_of clock_of faults_of start) (moment_of clock_of faults_of end) calls runs in
      record {
        any_moment = record { since = moments };
        since = λ image left. elim (safe.since.since (clock_of start.disk) image (omega arith) left) [
          | inl before ↦ stands_first (state_of start) calls image (opened image (only_now start.disk image before))
          | inr stands ↦ stands
        ];
        behind = safe.behind;
        receipts = receipts;
        lines = lines_kept (left_of end.disk) (since_earlier end.disk) served (stamps_of put)
            (subst (λ (l : List Turn). AllByRecursion (IsKeptSince (left_of end.disk)) l) turns (turns_kept (left_of end.disk) calls receipts own)) stamped;
        at_end = at_end;
        ruly = λ premise image left. elim (moments (clock_of old) image (omega arith) left) [
          | inl before ↦ premise image (only_now old image before)
          | inr later ↦ elim later [
            | inl now ↦ premise image now
            | inr stands ↦ run_ruly calls (moment_of clock_of faults_of start) (moment_of clock_of faults_of end) image runs
                (is_ruly_state (state_of start) settled ruly) stands
          ]
        ];
      }

  -- .. if the disk exposes its bytes
  safe_told : (old : D) (start end : Shelf D) (calls : List Call) (served : List Served) (put : List Piece) (x y z : Option (List ℕ))
      → IsOpened x y start.frames → Told y (λ bytes. Only bytes (images_of start.disk)) → BothTold y z (λ _ _. Unit {0})
      → OnDisk z (images_of end.disk) (StandsIn (state_of end)) → Told y (λ _. IsSafe clock_of left_of start calls end)
      → Told y (λ _. AreReceiptsKept (left_of end.disk) calls)
      → LeavesOnly clock_of left_of old start.disk (images_of old) → clock_of old ≤ clock_of start.disk
      → Runs (moment_of clock_of faults_of start) calls (moment_of clock_of faults_of end)
      → start.doubt ≡ [] → IsTrue (is_ruly (batches_of start.frames))
      → turns_in calls ≡ turns_of served → Stamped served (stamps_of put)
      → Told x (λ _. IsCrashSafe (look old) (look end.disk) (moment_of clock_of faults_of start) calls (moment_of clock_of faults_of end)
      served put)
  safe_told old start end calls served put None y z opened only tells stands safe receipts entry later runs settled ruly turns stamped = tt
  safe_told old start end calls served put (Some x) None z opened only tells stands safe receipts entry later runs settled ruly turns stamped = absurd opened
  safe_told old start end calls served put (Some x) (Some y) None opened only tells stands safe receipts entry later runs settled ruly turns stamped =
      absurd tells
  safe_told old start end calls served put (Some x) (Some y) (Some z) opened only tells stands safe receipts entry later runs settled ruly turns stamped =
      crash_safe old start end calls served put (opened_stands start x y opened.0 opened.1 only) entry later runs safe receipts settled ruly turns stamped
      stands.1

  -- a connection over an opened disk
  unfoldable served_over : {E : Type 0} (IsItem : Served → Type 0) (Closes : E → List Served → List ℕ → Option (List ℕ) → List ℕ → Type 0)
      (old : D) (start end : Shelf D) (ended : E) (at at' : Streams)
      → IsOpened (content_of old) (content_of start.disk) start.frames → start.doubt ≡ [] → IsTrue (is_ruly (batches_of start.frames))
      → LeavesOnly clock_of left_of old start.disk (images_of old) → Told (content_of start.disk) (λ bytes. Only bytes (images_of start.disk))
      → Keeps clock_of name_of faults_of old start.disk
      → Talks (Leads content_of left_of clock_of name_of faults_of) clock_of IsItem Closes ended start end at at'
      → OnDisk (content_of end.disk) (images_of end.disk) (StandsIn (state_of end))
      → IsConnection IsItem Closes ended at at' (look old) (look end.disk)
  served_over IsItem Closes old start end ended at at' opened settled ruly entry only keeps talk stands =
      let served = talk.0 in
      let stretch = talk.4.stretch in
      let leads = stretch.run in
      let runs = leads.runs in
      let own = runs_have_clocks (moment_of clock_of faults_of start) (moment_of clock_of faults_of end) stretch.calls runs in
      record {
        history = batches_of start.frames;
        opens = opens_history (content_of old) (content_of start.disk) start.frames opened;
        ruly = ruly;
        opening = moment_of clock_of faults_of start;
        begins = ap (λ (doubt : List Batch). record { history = batches_of start.frames; doubt = doubt }) settled;
        later = (keeps.time, keeps.count);
        calls = stretch.calls;
        last = moment_of clock_of faults_of end;
        runs = runs;
        now = (refl, refl);
        tells = tells_to_end (content_of old) (content_of start.disk) (content_of end.disk) start.frames opened leads.tells;
        stands = OnDisk-content (StandsIn (state_of end)) (content_of end.disk) (images_of end.disk) stands;
        served = served;
        rest = talk.1;
        unsaid = talk.2;
        put = stretch.put;
        turns = stretch.turns;
        each = stretch.each;
        takes = talk.3;
        puts = stretch.puts;
        said = stretch.said;
        stamped = stretch.stamped own;
        within = talk.4.within (λ old new calls leads. (run_keeps calls (moment_of clock_of faults_of old) (moment_of clock_of faults_of new) leads.runs).1);
        ends = talk.5;
        safe = safe_told old start end stretch.calls served stretch.put (content_of old) (content_of start.disk) (content_of end.disk) opened only
            leads.tells stands leads.safe (receipts_are_behind content_of left_of clock_of name_of faults_of start end stretch.calls leads) entry keeps.time
            runs settled ruly stretch.turns (stretch.stamped own);
      }

  -- .. which is handed back
  pub served_by : {E : Type 0} (IsItem : Served → Type 0) (Closes : E → List Served → List ℕ → Option (List ℕ) → List ℕ → Type 0)
      (old new : D) (start end : Shelf D) (ended : E) (at at' : Streams)
      → IsOpened (content_of old) (content_of start.disk) start.frames → start.doubt ≡ [] → IsTrue (is_ruly (batches_of start.frames))
      → LeavesOnly clock_of left_of old start.disk (images_of old) → Told (content_of start.disk) (λ bytes. Only bytes (images_of start.disk))
      → Keeps clock_of name_of faults_of old start.disk
      → Talks (Leads content_of left_of clock_of name_of faults_of) clock_of IsItem Closes ended start end at at' → new ≡ end.disk
      → OnDisk (content_of new) (images_of new) (StandsIn (state_of end))
      → IsConnection IsItem Closes ended at at' (look old) (look new)
  served_by IsItem Closes old new start end ended at at' opened settled ruly entry only keeps talk same stands =
      subst (λ (d : D). IsConnection IsItem Closes ended at at' (look old) (look d)) (sym same)
      (served_over IsItem Closes old start end ended at at' opened settled ruly entry only keeps talk
      (subst (λ (d : D). OnDisk (content_of d) (images_of d) (StandsIn (state_of end))) same stands))

  -- .. and begins and ends as the office
  pub served_with : {E : Type 0} (IsItem : Served → Type 0) (Closes : E → List Served → List ℕ → Option (List ℕ) → List ℕ → Type 0)
      (old new : D) (start end : Shelf D) (ended : E) (at at' : Streams)
      → IsOpened (content_of old) (content_of start.disk) start.frames → start.doubt ≡ [] → IsTrue (is_ruly (batches_of start.frames))
      → LeavesOnly clock_of left_of old start.disk (images_of old) → Told (content_of start.disk) (λ bytes. Only bytes (images_of start.disk))
      → Keeps clock_of name_of faults_of old start.disk
      → Talks (Leads content_of left_of clock_of name_of faults_of) clock_of IsItem Closes ended start end at at' → new ≡ end.disk
      → OnDisk (content_of new) (images_of new) (StandsIn (state_of end))
      → (run : IsConnection IsItem Closes ended at at' (look old) (look new)) × (run.history ≡ batches_of start.frames)
      × (run.last.state.history ≡ batches_of end.frames) × (run.opening.clock ≡ clock_of start.disk)
  unfolding served_over
  served_with IsItem Closes old new start end ended at at' opened settled ruly entry only keeps talk same stands =
      subst (λ (d : D). (run : IsConnection IsItem Closes ended at at' (look old) (look d)) × (run.history ≡ batches_of start.frames)
      × (run.last.state.history ≡ batches_of end.frames) × (run.opening.clock ≡ clock_of start.disk)) (sym same) (
        served_over IsItem Closes old start end ended at at' opened settled ruly entry only keeps talk
            (subst (λ (d : D). OnDisk (content_of d) (images_of d) (StandsIn (state_of end))) same stands),
        refl,
        refl,
        refl,
      )

  -- a run keeps what each call keeps
  pub run_keeps_disk : (start end : Shelf D) (calls : List Call) → Leads content_of left_of clock_of name_of faults_of start calls end
      → Keeps clock_of name_of faults_of start.disk end.disk
  run_keeps_disk start end calls leads =
      let run = run_keeps calls (moment_of clock_of faults_of start) (moment_of clock_of faults_of end) leads.runs in
      record { time = run.1; name = leads.name; count = run.0 }
