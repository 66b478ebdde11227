-- How a drill ends: what was asked, what is printed, and what a crash leaves.
use Rattle.std.proofs.Common.{◌≡◌, ◌≢◌, inl, inr, ℕ, ◌+◌, ◌<◌, ◌≤◌, IsTrue, Option, Some, None, List, [], ◌∷◌, ◌++◌, length, map, take, drop, get_or}
use Rattle.std.proofs.Common.{refl, sym, ◌∙◌, ap, subst, append_assoc, arith}
use Rattle.std.specs.Option.{option_map}
use Rattle.std.proofs.lemmas.List.{append-nil, map-append, take_more, take-append-drop}
use Rattle.std.proofs.lemmas.Grind.{flat_map-append}
use Rattle.disk_model.specs.Faults.{Rose}
use Rattle.disk_model.specs.Keeps.{Keeps}
use Rattle.disk_model.specs.Told.{Told, BothTold}
use Rattle.drill_history.specs.declared.numbers.TheConstants.{LARGEST_DRILL, SHOWN_DAY}
use Rattle.drill_history.specs.Drill.{drill_history, drill_sent, month_batches}
use Rattle.drill_history.proofs.CountLemmas.{drill_counts}
use Rattle.drill_history.proofs.DrillLemmas.{drill_passes}
use Rattle.drill_history.proofs.IdentityLemmas.{drill_identities_differ, drill_sends_one_again}
use Rattle.drill_history.proofs.ShownLemmas.{drill_unit_is_entered, drill_shows_quarter}
use Rattle.drill_history.proofs.TurnLemmas.{ruly_in_turn}
use Rattle.fact_kinds.specs.declared.batch.Batch.{Batch}
use Rattle.fact_kinds.specs.Facts.{facts_to}
use Rattle.ldar_journal.specs.Crash.{OnDisk}
use Rattle.ldar_journal.specs.Damage.{IsDamagedAt}
use Rattle.ldar_journal.specs.Image.{header, batches_of, Opens}
use Rattle.ldar_journal.specs.Opening.{IsOpened}
use Rattle.ldar_journal.specs.Shelf.{Shelf}
use Rattle.ldar_journal.proofs.CrashLemmas.{OnDisk-weaker}
use Rattle.ldar_journal.proofs.Histories.{one_history}
use Rattle.ldar_law.specs.declared.reply.Reply.{Reply}
use Rattle.ldar_law.specs.declared.reply.Reply.TheVariants as replies
use Rattle.ldar_law.specs.declared.request.Request.{Request}
use Rattle.ldar_law.specs.declared.request.Request.TheVariants.{Sync}
use Rattle.ldar_law.specs.declared.request.What.{What}
use Rattle.ldar_law.specs.Machine.{State, Moment, Call, Turn, Runs}
use Rattle.ldar_law.specs.Verdicts.{is_ruly}
use Rattle.ldar_ports.specs.Sink.{Piece}
use Rattle.ldar_session.specs.Served.{turns_in}
use Rattle.list_words.proofs.Members.{all_append}
use Rattle.office_book.specs.declared.opening.BookWhy.{BookWhy}
use Rattle.office_book.specs.declared.opening.BookWhy.TheVariants as reasons
use Rattle.office_interface.specs.Asking.{requests_of, replies_of}
use Rattle.office_book.specs.Opened.{IsReason, IsUnrulyAt}
use Rattle.office_book.specs.Safe.{AreBehind, IsSafe, Leads, StandsIn, state_of, moment_of}
use Rattle.office_views.specs.Totals.{totals_asked, totals_of_unit}
use Rattle.office_commands.specs.declared.drill.Asked.{Asked}
use Rattle.office_commands.specs.declared.drill.Asked.TheVariants as asks
use Rattle.office_commands.specs.declared.status.Status.{Status}
use Rattle.office_commands.specs.declared.status.Status.TheVariants.{Done, Memory, NoSuch}
use Rattle.office_commands.specs.Drills.{drill_view, with_view, requests_for, drill_requests, IsAnswer, AreAnswered, StopsAt, EndsAsks, asked_by}
use Rattle.office_commands.specs.Drills.{Lacks, TellsDrill, IsCutOff, EndsDrill, IsRunOver, IsNotRun, EndsOver, IsMadeOnly, IsDrilled}
use Rattle.office_commands.specs.Run.{DrillEnds}
use Rattle.office_commands.specs.Scene.{SeenDisk, seen}
use Rattle.office_commands.specs.Sending.{asked_in}
use Rattle.office_commands.proofs.ConnectionLemmas.{opens_history, tells_to_end}
use Rattle.office_commands.proofs.DrillTurns.{Follows, all_follow, run_follows}
use Rattle.office_commands.proofs.FaultLemmas.{AnyTurn, IsFault, any_last, run_rose}

-- ---- asking

-- nothing was asked
pub none_asked : EndsAsks asks.Done [] []
none_asked = (refl, tt)

-- the one turn of a call
one_turn : (turns : List Turn) (request : Request) (reply : Reply) → map (λ (turn : Turn). turn.request) turns ≡ request ∷ []
    → map (λ (turn : Turn). turn.reply) turns ≡ reply ∷ []
    → (turn : Turn) × (turns ≡ turn ∷ []) × (turn.reply ≡ reply)
one_turn [] request reply asked replied = absurd cc
one_turn (turn ∷ []) request reply asked replied = (turn, refl, cc)
one_turn (turn ∷ other ∷ turns) request reply asked replied = absurd cc

one_done : (call : Call) (request : Request) (reply : Reply) → requests_of call ≡ request ∷ [] → replies_of call ≡ reply ∷ [] → IsAnswer reply
    → EndsAsks asks.Done (request ∷ []) (call ∷ [])
one_done call request reply asked replied answer =
    let one = one_turn call.turns request reply asked replied in
    let turns : turns_in (call ∷ []) ≡ call.turns = append-nil call.turns in (
      ap asked_in turns ∙ asked,
      subst AreAnswered (sym (turns ∙ one.1)) (subst IsAnswer (sym one.2) answer, tt),
    )

one_stop : (call : Call) (request : Request) (reply : Reply) → requests_of call ≡ request ∷ [] → replies_of call ≡ reply ∷ []
    → StopsAt reply (request ∷ []) (call ∷ [])
one_stop call request reply asked replied =
    let one = one_turn call.turns request reply asked replied in
    let turns : turns_in (call ∷ []) ≡ call.turns = append-nil call.turns in
    record {
      before = [];
      last = one.0;
      turns = turns ∙ one.1;
      answered = tt;
      replied = one.2;
      behind = [];
      asked = sym asked ∙ ap asked_in (sym turns) ∙ sym (append-nil (asked_in (turns_in (call ∷ []))));
    }

-- one request was asked
pub one_asked : (call : Call) (request : Request) (reply : Reply) (asked : Asked) → requests_of call ≡ request ∷ [] → replies_of call ≡ reply ∷ []
    → asked ≡ asked_by reply → EndsAsks asked (request ∷ []) (call ∷ [])
one_asked call request (replies.Receipt handheld number position) asked requests told is =
    subst (λ (a : Asked). EndsAsks a (request ∷ []) (call ∷ [])) (sym is) (one_done call request (replies.Receipt handheld number position) requests told tt)
one_asked call request (replies.Conflict position) asked requests told is =
    subst (λ (a : Asked). EndsAsks a (request ∷ []) (call ∷ [])) (sym is) (one_done call request (replies.Conflict position) requests told tt)
one_asked call request (replies.Denied fact rule) asked requests told is =
    subst (λ (a : Asked). EndsAsks a (request ∷ []) (call ∷ [])) (sym is) (one_done call request (replies.Denied fact rule) requests told tt)
one_asked call request (replies.Full facts) asked requests told is =
    subst (λ (a : Asked). EndsAsks a (request ∷ []) (call ∷ [])) (sym is) (one_done call request (replies.Full facts) requests told tt)
one_asked call request (replies.Shown text) asked requests told is =
    subst (λ (a : Asked). EndsAsks a (request ∷ []) (call ∷ [])) (sym is) (one_done call request (replies.Shown text) requests told tt)
one_asked call request (replies.NoSuch what) asked requests told is =
    subst (λ (a : Asked). EndsAsks a (request ∷ []) (call ∷ [])) (sym is) (one_done call request (replies.NoSuch what) requests told tt)
one_asked call request replies.Fault asked requests told is =
    subst (λ (a : Asked). EndsAsks a (request ∷ []) (call ∷ [])) (sym is) (one_stop call request replies.Fault requests told)
one_asked call request replies.Memory asked requests told is =
    subst (λ (a : Asked). EndsAsks a (request ∷ []) (call ∷ [])) (sym is) (one_stop call request replies.Memory requests told)

-- the turns of two runs of calls
turns_append : (first more : List Call) → turns_in (first ++ more) ≡ turns_in first ++ turns_in more
turns_append first more = flat_map-append (λ (call : Call). call.turns) first more

asked_append : (first more : List Call) → asked_in (turns_in (first ++ more)) ≡ asked_in (turns_in first) ++ asked_in (turns_in more)
asked_append first more = ap asked_in (turns_append first more) ∙ map-append (λ (turn : Turn). turn.request) (turns_in first) (turns_in more)

-- all of both were answered
pub both_asked : (one two : List Request) (first more : List Call) → EndsAsks asks.Done one first → EndsAsks asks.Done two more
    → EndsAsks asks.Done (one ++ two) (first ++ more)
both_asked one two first more all next = (
  asked_append first more ∙ ap (λ l. l ++ asked_in (turns_in more)) all.0 ∙ ap (λ l. one ++ l) next.0,
  subst AreAnswered (sym (turns_append first more)) (all_append (λ (turn : Turn). IsAnswer turn.reply) (turns_in first) (turns_in more) all.1 next.1),
)

stops_more : (reply : Reply) (one two rest : List Request) (first more : List Call) → EndsAsks asks.Done one first → StopsAt reply two more
    → StopsAt reply (one ++ (two ++ rest)) (first ++ more)
stops_more reply one two rest first more all next = record {
  before = turns_in first ++ next.before;
  last = next.last;
  turns = turns_append first more ∙ ap (λ l. turns_in first ++ l) next.turns ∙ sym (append_assoc (turns_in first) next.before (next.last ∷ []));
  answered = all_append (λ (turn : Turn). IsAnswer turn.reply) (turns_in first) next.before all.1 next.answered;
  replied = next.replied;
  behind = next.behind ++ rest;
  asked = ap (λ l. one ++ (l ++ rest)) next.asked
      ∙ ap (λ l. l ++ ((asked_in (turns_in more) ++ next.behind) ++ rest)) (sym all.0)
      ∙ ap (λ l. asked_in (turns_in first) ++ l) (append_assoc (asked_in (turns_in more)) next.behind rest)
      ∙ sym (append_assoc (asked_in (turns_in first)) (asked_in (turns_in more)) (next.behind ++ rest))
      ∙ ap (λ l. l ++ (next.behind ++ rest)) (sym (asked_append first more));
}

-- asking stopped, with further requests that were not asked
pub more_asked : (asked : Asked) (one two rest : List Request) (first more : List Call) → ¬ (asked ≡ asks.Done) → EndsAsks asks.Done one first
    → EndsAsks asked two more → EndsAsks asked (one ++ (two ++ rest)) (first ++ more)
more_asked asks.Done one two rest first more not all ends = absurd (not refl)
more_asked asks.Fault one two rest first more not all ends = stops_more replies.Fault one two rest first more all ends
more_asked asks.Memory one two rest first more not all ends = stops_more replies.Memory one two rest first more all ends

-- a batch was answered, and the view after it was asked
pub pair_asked : (asked : Asked) (batch : Batch) (first more : List Call) → EndsAsks asks.Done (Sync batch ∷ []) first
    → EndsAsks asked (drill_view ∷ []) more → EndsAsks asked (with_view batch) (first ++ more)
pair_asked asks.Done batch first more all ends = both_asked (Sync batch ∷ []) (drill_view ∷ []) first more all ends
pair_asked asks.Fault batch first more all ends = stops_more replies.Fault (Sync batch ∷ []) (drill_view ∷ []) [] first more all ends
pair_asked asks.Memory batch first more all ends = stops_more replies.Memory (Sync batch ∷ []) (drill_view ∷ []) [] first more all ends

-- the requests up to one more batch of a list that is gone over
taken_more : (batches : List Batch) (i : ℕ) (batch : Batch) → i < length batches → batch ≡ get_or batches i batch
    → requests_for (take (i + 1) batches) ≡ requests_for (take i batches) ++ with_view batch
taken_more batches i batch within is =
    ap requests_for (take_more batches i batch within ∙ ap (λ x. take i batches ++ x ∷ []) (sym is))
    ∙ flat_map-append with_view (take i batches) (batch ∷ [])

-- .. of such a list
pub stops_at : (asked : Asked) (batches : List Batch) (i : ℕ) (batch : Batch) (first more : List Call) → i < length batches → batch ≡ get_or batches i batch
    → ¬ (asked ≡ asks.Done) → EndsAsks asks.Done (requests_for (take i batches)) first → EndsAsks asked (with_view batch) more
    → EndsAsks asked (requests_for batches) (first ++ more)
stops_at asked batches i batch first more within is not all ends =
    let before = requests_for (take i batches) in
    let after = requests_for (drop (i + 1) batches) in
    let whole : before ++ (with_view batch ++ after) ≡ requests_for batches =
    sym (append_assoc before (with_view batch) after) ∙ ap (λ l. l ++ after) (sym (taken_more batches i batch within is))
    ∙ sym (flat_map-append with_view (take (i + 1) batches) (drop (i + 1) batches)) ∙ ap requests_for (take-append-drop (i + 1) batches) in
    subst (λ (l : List Request). EndsAsks asked l (first ++ more)) whole (more_asked asked before (with_view batch) after first more not all ends)

pub goes_on : (batches : List Batch) (i : ℕ) (batch : Batch) (first more : List Call) → i < length batches → batch ≡ get_or batches i batch
    → EndsAsks asks.Done (requests_for (take i batches)) first → EndsAsks asks.Done (with_view batch) more
    → EndsAsks asks.Done (requests_for (take (i + 1) batches)) (first ++ more)
goes_on batches i batch first more within is all one =
    subst (λ (l : List Request). EndsAsks asks.Done l (first ++ more)) (sym (taken_more batches i batch within is))
    (both_asked (requests_for (take i batches)) (with_view batch) first more all one)

-- ---- the history of a drill

ruly : (seed size : ℕ) → size ≤ LARGEST_DRILL → IsTrue (is_ruly (drill_history seed size))
ruly seed size within = ruly_in_turn (drill_history seed size) (omega (arith, within, drill_counts seed size)) (drill_passes seed size)

-- all requests of a drill were answered, from the empty history
all_kept : (seed size : ℕ) (calls : List Call) (start end : Moment) → size ≤ LARGEST_DRILL → Runs start calls end → start.state.doubt ≡ []
    → asked_in (turns_in calls) ≡ drill_requests seed size → AreAnswered (turns_in calls) → start.state.history ≡ []
    → end.state.history ≡ drill_history seed size
unfolding drill_sent
all_kept seed size calls start end within runs settled asked answered none =
    let follows = run_follows calls start end runs settled answered in
    all_follow (drill_history seed size) [] (take 1 (month_batches seed size)) (turns_in calls) end.state.history (ruly seed size within)
    (drill_identities_differ seed size) (drill_sends_one_again seed size) asked
    (subst (λ (h : List Batch). Follows h (turns_in calls) end.state.history) none follows.0)

-- such a history has the unit and the quarter
has_all : (seed size : ℕ) (what : What) → Lacks (drill_history seed size) what → ⊥
has_all seed size what (inl none) =
    let some : totals_asked 1 SHOWN_DAY (facts_to SHOWN_DAY (drill_history seed size)) ≡ Some _ =
    ap (option_map (λ entry. totals_of_unit entry SHOWN_DAY (facts_to SHOWN_DAY (drill_history seed size)))) (drill_unit_is_entered seed size) in
    absurd (let never : None ≡ Some _ = sym none ∙ some in cc)
has_all seed size what (inr lacks) =
    let shows = drill_shows_quarter seed size in
    absurd (let never : Some (replies.NoSuch what) ≡ Some (replies.Shown shows.0) = sym lacks ∙ shows.1 in cc)

-- the result of a drill is about such a history
told_all : (seed size : ℕ) (history : List Batch) (status : Status) (old new : Option (List Piece)) (what : What) → status ≡ NoSuch what
    → TellsDrill seed size history status old new → Lacks history what
told_all seed size history status old new what is tells = (subst (λ (s : Status). TellsDrill seed size history s old new) is tells).0

module _ {D : Type 0} (content_of : D → Option (List ℕ)) (images_of : D → List ℕ → Type 0) (left_of : D → ℕ → List ℕ → Type 0)
    (clock_of name_of faults_of : D → ℕ) where
  -- all was asked, and the text was printed
  pub is_through : (seed size : ℕ) (status : Status) (start end : Shelf D) (calls : List Call) (old new : Option (List Piece)) → size ≤ LARGEST_DRILL
      → start.doubt ≡ [] → Leads content_of left_of clock_of name_of faults_of start calls end
      → EndsAsks asks.Done (drill_requests seed size) calls → TellsDrill seed size (batches_of end.frames) status old new
      → EndsDrill seed size (batches_of start.frames) status calls (state_of end) old new
  is_through seed size status start end calls old new within settled leads ends tells =
      let from = moment_of clock_of faults_of start in
      let to = moment_of clock_of faults_of end in
      let kept : batches_of start.frames ≡ [] → batches_of end.frames ≡ drill_history seed size =
      all_kept seed size calls from to within leads.runs settled ends.0 ends.1 in
      inr (record {
        asked = ends.0;
        answered = ends.1;
        settled = (run_follows calls from to leads.runs settled ends.1).1;
        kept = kept;
        tells = tells;
        shows = λ none what is.
            has_all seed size what (subst (λ (h : List Batch). Lacks h what) (kept none) (told_all seed size (batches_of end.frames) status old new what is tells));
      })

  -- nothing is in doubt where all was answered
  pub all_settled : (start end : Shelf D) (calls : List Call) (requests : List Request) → start.doubt ≡ []
      → Leads content_of left_of clock_of name_of faults_of start calls end → EndsAsks asks.Done requests calls → end.doubt ≡ []
  all_settled start end calls requests settled leads ends =
      (run_follows calls (moment_of clock_of faults_of start) (moment_of clock_of faults_of end) leads.runs settled ends.1).1

  -- a disk error was counted
  pub stop_rose : (start end : Shelf D) (calls : List Call) (requests : List Request) → Leads content_of left_of clock_of name_of faults_of start calls end
      → StopsAt replies.Fault requests calls → Rose (faults_of start.disk) (faults_of end.disk)
  stop_rose start end calls requests leads stops =
      run_rose calls (moment_of clock_of faults_of start) (moment_of clock_of faults_of end) leads.runs
      (subst (AnyTurn IsFault) (sym stops.turns) (any_last IsFault stops.before stops.last stops.replied))

  -- ---- over a disk

  abbrev look : D → SeenDisk
  look = seen content_of images_of left_of clock_of faults_of

  behind_told : (x y : Option (List ℕ)) (frames : List (List Batch)) (left : ℕ → List ℕ → Type 0) (start end : Shelf D) (calls : List Call)
      → IsOpened x y frames → Told y (λ _. IsSafe clock_of left_of start calls end) → Told x (λ _. AreBehind (left_of end.disk) calls)
  behind_told None y frames left start end calls opened safe = tt
  behind_told (Some x) None frames left start end calls opened safe = absurd opened
  behind_told (Some x) (Some y) frames left start end calls opened safe = safe.behind

  -- a drill in an office that was opened, and whose disk is handed back
  pub run_over : (seed size : ℕ) (status : Status) (old new : D) (start end : Shelf D) (calls : List Call) (pieces pieces' : Option (List Piece))
      → IsOpened (content_of old) (content_of start.disk) start.frames → start.doubt ≡ [] → Keeps clock_of name_of faults_of old start.disk
      → Leads content_of left_of clock_of name_of faults_of start calls end
      → EndsDrill seed size (batches_of start.frames) status calls (state_of end) pieces pieces' → new ≡ end.disk
      → OnDisk (content_of new) (images_of new) (StandsIn (state_of end))
      → IsRunOver seed size status pieces pieces' (look old) (look new)
  run_over seed size status old new start end calls pieces pieces' opened settled keeps leads ends same stands = record {
    history = batches_of start.frames;
    opens = opens_history (content_of old) (content_of start.disk) start.frames opened;
    opening = moment_of clock_of faults_of start;
    begins = ap (λ (doubt : List Batch). record { history = batches_of start.frames; doubt = doubt }) settled;
    later = (keeps.time, keeps.count);
    calls = calls;
    last = moment_of clock_of faults_of end;
    runs = leads.runs;
    now = (ap faults_of (sym same), ap clock_of (sym same));
    tells = subst (λ (d : D). BothTold (content_of old) (content_of d) (λ _ _. Unit {0})) (sym same)
        (tells_to_end (content_of old) (content_of start.disk) (content_of end.disk) start.frames opened leads.tells);
    stands = stands;
    behind = subst (λ (d : D). Told (content_of old) (λ _. AreBehind (left_of d) calls)) (sym same)
        (behind_told (content_of old) (content_of start.disk) start.frames (left_of end.disk) start end calls opened leads.safe);
    ends = ends;
  }

-- ---- over a disk that was empty

-- the journal that was made opened to no history
empty_then : (x y : Option (List ℕ)) (history : List Batch) → BothTold x y (λ old new. (old ≡ []) × Opens new []) → Told y (λ bytes. Opens bytes history)
    → Told x (λ bytes. (bytes ≡ []) × (history ≡ []))
empty_then None y history made opens = tt
empty_then (Some x) None history made opens = absurd made
empty_then (Some x) (Some y) history made opens = (made.0, one_history y history [] opens made.1)

told_on : (x y z : Option (List ℕ)) → BothTold x y (λ old new. (old ≡ []) × Opens new []) → BothTold y z (λ _ _. Unit {0}) → BothTold x z (λ _ _. Unit {0})
told_on None None z made then = then
told_on None (Some y) z made then = absurd made
told_on (Some x) None z made then = absurd made
told_on (Some x) (Some y) None made then = absurd then
told_on (Some x) (Some y) (Some z) made then = tt

told_back : (P : Type 0) (x y : Option (List ℕ)) → BothTold x y (λ old new. (old ≡ []) × Opens new []) → Told y (λ _. P) → Told x (λ _. P)
told_back P None y made holds = tt
told_back P (Some x) None made holds = absurd made
told_back P (Some x) (Some y) made holds = holds

-- the bytes of the journal that was made
made_stays : (x y z : Option (List ℕ)) → BothTold x y (λ old new. (old ≡ []) × Opens new []) → BothTold y z (λ old new. new ≡ old)
    → BothTold x z (λ old new. (old ≡ []) × Opens new [])
made_stays None None z made same = both_of_nothing z same
  where
    both_of_nothing : (z : Option (List ℕ)) → BothTold None z (λ old new. new ≡ old) → BothTold None z (λ old new. (old ≡ []) × Opens new [])
    both_of_nothing None same = tt
    both_of_nothing (Some z) same = absurd same
made_stays None (Some y) z made same = absurd made
made_stays (Some x) None z made same = absurd made
made_stays (Some x) (Some y) None made same = absurd same
made_stays (Some x) (Some y) (Some z) made same = (made.0, subst (λ (l : List ℕ). Opens l []) (sym same) made.1)

-- a property of bytes that stay the same
told_stays : (P : List ℕ → Type 0) (y z : Option (List ℕ)) → BothTold y z (λ old new. new ≡ old) → Told y P → Told z P
told_stays P None None same holds = tt
told_stays P None (Some z) same holds = absurd same
told_stays P (Some y) None same holds = absurd same
told_stays P (Some y) (Some z) same holds = subst P (sym same) holds

reason_stays : (why : BookWhy) (y z : Option (List ℕ)) → BothTold y z (λ old new. new ≡ old) → IsReason y why → IsReason z why
reason_stays reasons.Disk y z same reason = tt
reason_stays reasons.NotAJournal y z same reason = told_stays (λ bytes. take 16 bytes ≢ header) y z same reason
reason_stays (reasons.Damaged at) y z same reason = told_stays (λ bytes. IsDamagedAt bytes at) y z same reason
reason_stays (reasons.Unruly position rule) y z same reason = told_stays (λ bytes. IsUnrulyAt bytes position rule) y z same reason
reason_stays reasons.Memory y z same reason = tt

pub made_only : (status : Status) (disk mid disk' : SeenDisk) → BothTold disk.content mid.content (λ old new. (old ≡ []) × Opens new [])
    → IsNotRun status mid disk' → IsMadeOnly status disk disk'
made_only status disk mid disk' made shut = record {
  why = shut.why;
  tells = shut.tells;
  reason = reason_stays shut.why mid.content disk'.content shut.unchanged shut.reason;
  made = made_stays disk.content mid.content disk'.content made shut.unchanged;
}

-- an image of a state with nothing in doubt
stands_certain : (state : State) (history : List Batch) → state.history ≡ history → state.doubt ≡ [] → (image : List ℕ) → StandsIn state image → Opens image history
stands_certain state history is none image stands = elim stands [
  | inl opens ↦ subst (Opens image) is opens
  | inr opens ↦ subst (Opens image) (ap (λ (l : List Batch). state.history ++ l) none ∙ append-nil state.history ∙ is) opens
]

-- a drill that is done has kept its history
done_keeps : (seed size : ℕ) (history : List Batch) (status : Status) (calls : List Call) (state : State) (old new : Option (List Piece)) → status ≡ Done
    → history ≡ [] → EndsDrill seed size history status calls state old new → (state.history ≡ drill_history seed size) × (state.doubt ≡ [])
done_keeps seed size history status calls state old new done none (inl cut) =
    absurd (subst (λ (s : Status). IsCutOff seed size s calls) done cut.0)
done_keeps seed size history status calls state old new done none (inr through) = (through.kept none, through.settled)

pub drilled : (seed size : ℕ) (status : Status) (old new : Option (List Piece)) (disk mid disk' : SeenDisk)
    → BothTold disk.content mid.content (λ old new. (old ≡ []) × Opens new []) → disk.clock ≤ mid.clock → disk.faults ≤ mid.faults
    → IsRunOver seed size status old new mid disk' → IsDrilled seed size status old new disk disk'
drilled seed size status old new disk mid disk' made later more run =
    let sooner = run.later.0 in
    let fewer = run.later.1 in
    record {
      history = run.history;
      empty = empty_then disk.content mid.content run.history made run.opens;
      opening = run.opening;
      begins = run.begins;
      later = (omega (arith, later, sooner), omega (arith, more, fewer));
      calls = run.calls;
      last = run.last;
      runs = run.runs;
      now = run.now;
      tells = told_on disk.content mid.content disk'.content made run.tells;
      stands = run.stands;
      behind = told_back (AreBehind disk'.left run.calls) disk.content mid.content made run.behind;
      ends = run.ends;
      at_end = λ done.
          let kept = done_keeps seed size run.history status run.calls run.last.state old new done.0 done.1 run.ends in
          OnDisk-weaker (StandsIn run.last.state) (λ image. Opens image (drill_history seed size))
          (λ image stands. stands_certain run.last.state (drill_history seed size) kept.0 kept.1 image stands) disk'.content disk'.images run.stands;
    }

-- how a drill over a disk with a journal that was just made ends
pub ends_over_new : (seed size : ℕ) (status : Status) (old new : Option (List Piece)) (disk mid disk' : SeenDisk)
    → BothTold disk.content mid.content (λ old new. (old ≡ []) × Opens new []) → disk.clock ≤ mid.clock → disk.faults ≤ mid.faults
    → EndsOver seed size status old new mid disk' → DrillEnds seed size status old new disk disk'
ends_over_new seed size status old new disk mid disk' made later more (inl shut) = inr (inl (shut.1, made_only status disk mid disk' made shut.0))
ends_over_new seed size status old new disk mid disk' made later more (inr run) =
    inr (inr (drilled seed size status old new disk mid disk' made later more run))
