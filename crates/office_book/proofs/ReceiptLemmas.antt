-- A history grows at its end, so a batch with a receipt stays at its position.
use Rattle.std.proofs.Common.{◌≡◌, inl, inr, ℕ, ◌-◌, Option, Some, None, List, [], ◌∷◌, ◌++◌, length, refl, sym, ◌∙◌, ap, subst, arith}
use Rattle.std.proofs.Common.{append_assoc}
use Rattle.std.specs.Prelude.{slice_get}
use Rattle.std.specs.List.{AllByRecursion}
use Rattle.std.proofs.lemmas.List.{append-nil, length-append}
use Rattle.std.proofs.lemmas.Option.{slice_get_within, slice_get-get_or, get_or_from_slice_get}
use Rattle.std.proofs.Math.ListN.{get_or-append}
use Rattle.std.proofs.Math.Seq.{get_or-append_seam}
use Rattle.fact_kinds.specs.declared.batch.Batch.{Batch}
use Rattle.disk_model.specs.Told.{Told}
use Rattle.ldar_journal.specs.Shelf.{Shelf}
use Rattle.ldar_law.specs.declared.reply.Reply.{Reply}
use Rattle.ldar_law.specs.declared.reply.Reply.TheVariants.{Receipt, Conflict, Denied, Full, Shown, NoSuch, Fault, Memory}
use Rattle.ldar_law.specs.declared.request.Request.{Request}
use Rattle.ldar_law.specs.declared.request.Request.TheVariants.{Sync, Due, Tags, Delays, Route, Percent, Report as ReportView}
use Rattle.ldar_law.specs.Machine.{State, Moment, Call, Turn, Finding, not_asked, they_stand, they_are_gone, Answers, AnswersBatch, batch_at, settled}
use Rattle.ldar_law.specs.Machine.{IsAnswered, IsWanting, BreaksOff, Step, Steps, Runs}
use Rattle.office_book.specs.Safe.{StandsIn, StandsInRun, AreBehind, IsSafe, Leads, moment_of}
use Rattle.office_book.specs.Receipts.{HoldsAt, IsReceipted, IsReceiptKept, AreReceiptsKept}

-- ---- histories that grow

-- one history begins with another
abbrev pub GoesFrom : List Batch → List Batch → Type 0
GoesFrom old new = (more : List Batch) × (new ≡ old ++ more)

from_itself : (old new : List Batch) → new ≡ old → GoesFrom old new
from_itself old new same = ([], same ∙ sym (append-nil old))

from_both : (a b c : List Batch) → GoesFrom a b → GoesFrom b c → GoesFrom a c
from_both a b c one two = (one.0 ++ two.0, two.1 ∙ ap (λ (l : List Batch). l ++ two.0) one.1 ∙ append_assoc a one.0 two.0)

-- an element keeps its place in a longer list
stays_at : {X : Type 0} (xs more : List X) (i : ℕ) (x : X) → slice_get xs i ≡ Some x → slice_get (xs ++ more) i ≡ Some x
stays_at xs more i x stands =
    let within = slice_get_within xs i x stands in
    let longer = length-append xs more in
    slice_get-get_or (xs ++ more) i x (omega arith) ∙ ap Some (get_or-append xs more x i within ∙ get_or_from_slice_get xs i x x stands)

-- the last element of a list is at its end
last_at : {X : Type 0} (xs : List X) (x : X) → slice_get (xs ++ x ∷ []) (length xs) ≡ Some x
last_at xs x =
    let longer = length-append xs (x ∷ []) in
    slice_get-get_or (xs ++ x ∷ []) (length xs) x (omega arith) ∙ ap Some (get_or-append_seam xs x [] x)

-- a batch at a position is there in a later history
pub holds_later : (old new : List Batch) (position : ℕ) (batch : Batch) → GoesFrom old new → batch_at old position ≡ Some batch
    → batch_at new position ≡ Some batch
holds_later old new position batch from stands =
    subst (λ (l : List Batch). batch_at l position ≡ Some batch) (sym from.1) (stays_at old from.0 (position - 1) batch stands)

-- ---- steps of the machine

-- the history after a batch begins with the one before
batch_goes : (history : List Batch) (batch : Batch) (reply : Reply) (after : List Batch) → AnswersBatch history batch reply after → GoesFrom history after
batch_goes history batch (Receipt handheld number position) after answers = elim answers.2 [
  | inl kept ↦ from_itself history after kept.1
  | inr new ↦ (batch ∷ [], new.2)
]
batch_goes history batch (Conflict position) after answers = from_itself history after answers.3
batch_goes history batch (Denied fact rule) after answers = from_itself history after answers.2
batch_goes history batch (Full facts) after answers = from_itself history after answers.2
batch_goes history batch (Shown text) after answers = absurd answers
batch_goes history batch (NoSuch what) after answers = absurd answers
batch_goes history batch Fault after answers = absurd answers
batch_goes history batch Memory after answers = absurd answers

-- the history after a request begins with the one before
answer_goes : (history : List Batch) (request : Request) (reply : Reply) (after : List Batch) → Answers history request reply after → GoesFrom history after
answer_goes history (Sync batch) reply after answers = batch_goes history batch reply after answers
answer_goes history (Due unit day) reply after answers = from_itself history after answers.1
answer_goes history (Tags unit day) reply after answers = from_itself history after answers.1
answer_goes history (Delays unit day) reply after answers = from_itself history after answers.1
answer_goes history (Route unit day stops) reply after answers = from_itself history after answers.1
answer_goes history (Percent unit quarter day) reply after answers = from_itself history after answers.1
answer_goes history (ReportView unit half day) reply after answers = from_itself history after answers.1

-- the history after a settling begins with the one before
settled_goes : (found : Finding) (state : State) → GoesFrom state.history (settled found state).history
settled_goes not_asked state = from_itself state.history state.history refl
settled_goes they_stand state = (state.doubt, refl)
settled_goes they_are_gone state = from_itself state.history state.history refl

-- a turn, by its reply
abbrev GoesBy : Reply → State → Turn → State → Type 0
GoesBy reply state turn next = elim reply [ Fault ↦ ⊥ | Memory ↦ IsWanting state turn next | other ↦ IsAnswered state turn next ]

-- the steps of a group, by its first reply
abbrev StepsBy : Reply → State → Turn → List Turn → State → Type 0
StepsBy reply state turn turns next = elim reply [
  | Fault ↦ BreaksOff state turn turns next
  | other ↦ (between : State) × Step state turn between × Steps between turns next
]

answered_goes : (state : State) (turn : Turn) (next : State) → IsAnswered state turn next → GoesFrom state.history next.history
answered_goes state turn next answered = answer_goes state.history turn.request turn.reply next.history answered.answers

turn_goes : (reply : Reply) (state : State) (turn : Turn) (next : State) → GoesBy reply state turn next → GoesFrom state.history next.history
turn_goes (Receipt handheld number position) state turn next goes = answered_goes state turn next goes
turn_goes (Conflict position) state turn next goes = answered_goes state turn next goes
turn_goes (Denied fact rule) state turn next goes = answered_goes state turn next goes
turn_goes (Full facts) state turn next goes = answered_goes state turn next goes
turn_goes (Shown text) state turn next goes = answered_goes state turn next goes
turn_goes (NoSuch what) state turn next goes = answered_goes state turn next goes
turn_goes Fault state turn next goes = absurd goes
turn_goes Memory state turn next goes = from_itself state.history next.history (ap (λ (s : State). s.history) goes.stays)

step_goes : (state : State) (turn : Turn) (next : State) → Step state turn next → GoesFrom state.history next.history
step_goes state turn next step =
    from_both state.history (settled turn.found state).history next.history (settled_goes turn.found state)
    (turn_goes turn.reply (settled turn.found state) turn next step.goes_on)

break_goes : (state : State) (turn : Turn) (turns : List Turn) (next : State) → BreaksOff state turn turns next → GoesFrom state.history next.history
break_goes state turn turns next breaks =
    from_both state.history (settled turn.found state).history next.history (settled_goes turn.found state)
    (from_itself (settled turn.found state).history next.history (elim breaks.leaves [
      | inl leaves ↦ ap (λ (s : State). s.history) leaves.stays
      | inr leaves ↦ ap (λ (s : State). s.history) leaves.leaves
    ]))

on_goes : (state : State) (turn : Turn) (turns : List Turn) (next : State)
    → ((between : State) → Steps between turns next → GoesFrom between.history next.history)
    → (between : State) × Step state turn between × Steps between turns next → GoesFrom state.history next.history
on_goes state turn turns next rest steps =
    from_both state.history steps.0.history next.history (step_goes state turn steps.0 steps.1) (rest steps.0 steps.2)

steps_go_by : (reply : Reply) (state : State) (turn : Turn) (turns : List Turn) (next : State)
    → ((between : State) → Steps between turns next → GoesFrom between.history next.history) → StepsBy reply state turn turns next
    → GoesFrom state.history next.history
steps_go_by (Receipt handheld number position) state turn turns next rest steps = on_goes state turn turns next rest steps
steps_go_by (Conflict position) state turn turns next rest steps = on_goes state turn turns next rest steps
steps_go_by (Denied fact rule) state turn turns next rest steps = on_goes state turn turns next rest steps
steps_go_by (Full facts) state turn turns next rest steps = on_goes state turn turns next rest steps
steps_go_by (Shown text) state turn turns next rest steps = on_goes state turn turns next rest steps
steps_go_by (NoSuch what) state turn turns next rest steps = on_goes state turn turns next rest steps
steps_go_by Fault state turn turns next rest steps = break_goes state turn turns next steps
steps_go_by Memory state turn turns next rest steps = on_goes state turn turns next rest steps

-- the history grows in the steps of a group
pub steps_go : (turns : List Turn) (state next : State) → Steps state turns next → GoesFrom state.history next.history
steps_go [] state next steps = from_itself state.history next.history (ap (λ (s : State). s.history) steps)
steps_go (turn ∷ turns) state next steps = steps_go_by turn.reply state turn turns next (λ between rest. steps_go turns between next rest) steps

-- ---- receipts

-- the batch of a receipt is at its position in the history after it
receipt_holds : (history : List Batch) (batch : Batch) (handheld number position : ℕ) (after : List Batch)
    → AnswersBatch history batch (Receipt handheld number position) after → batch_at after position ≡ Some batch
receipt_holds history batch handheld number position after answers = elim answers.2 [
  | inl kept ↦ subst (λ (l : List Batch). batch_at l position ≡ Some batch) (sym kept.1) kept.0.1
  | inr new ↦ subst (λ (l : List Batch). batch_at l position ≡ Some batch) (sym new.2)
      (subst (λ (i : ℕ). slice_get (history ++ batch ∷ []) i ≡ Some batch) (let at = new.1 in omega arith) (last_at history batch))
]

-- a turn with a receipt
turn_holds : (state : State) (turn : Turn) (turns : List Turn) (next : State) (batch : Batch) (position : ℕ) → IsReceipted turn batch position
    → Steps state (turn ∷ turns) next → batch_at next.history position ≡ Some batch
turn_holds state turn turns next batch position receipt steps =
    let by = subst (λ (r : Reply). StepsBy r state turn turns next) receipt.told steps in
    let goes = subst (λ (r : Reply). GoesBy r (settled turn.found state) turn by.0) receipt.told by.1.goes_on in
    let answers : AnswersBatch (settled turn.found state).history batch (Receipt receipt.handheld receipt.number position) by.0.history =
    subst (λ (q : Request). Answers (settled turn.found state).history q (Receipt receipt.handheld receipt.number position) by.0.history) receipt.asked
    (subst (λ (r : Reply). Answers (settled turn.found state).history turn.request r by.0.history) receipt.told goes.answers) in
    holds_later by.0.history next.history position batch (steps_go turns by.0 next by.2)
    (receipt_holds (settled turn.found state).history batch receipt.handheld receipt.number position by.0.history answers)

-- a batch at its position in some states is there in each image of these states
stands_holds : (state : State) (position : ℕ) (batch : Batch) (image : List ℕ) → batch_at state.history position ≡ Some batch → StandsIn state image
    → HoldsAt image position batch
stands_holds state position batch image holds stands = elim stands [
  | inl before ↦ record { history = state.history; opens = before; stands = holds }
  | inr after ↦ record { history = state.history ++ state.doubt; opens = after; stands = stays_at state.history state.doubt (position - 1) batch holds }
]

-- a batch at its position in a state of a run is there in all later states
run_holds : (start end : Moment) (calls : List Call) (position : ℕ) (batch : Batch) (image : List ℕ) → Runs start calls end
    → batch_at start.state.history position ≡ Some batch → StandsInRun start.state calls image → HoldsAt image position batch
run_holds start end [] position batch image run holds stands = stands_holds start.state position batch image holds stands
run_holds start end (call ∷ calls) position batch image run holds stands = elim stands [
  | inl here ↦ stands_holds start.state position batch image holds here
  | inr later ↦ run_holds call.end end calls position batch image run.1
      (holds_later start.state.history call.end.state.history position batch (steps_go call.turns start.state call.end.state run.0.steps) holds) later
]

-- a disk error has no receipt
no_receipts : (images : List ℕ → Type 0) (turns : List Turn) → AllByRecursion (λ (turn : Turn). turn.reply ≡ Fault) turns
    → AllByRecursion (IsReceiptKept images) turns
no_receipts images [] faults = tt
no_receipts images (turn ∷ turns) faults = (
  λ batch position receipt image now. let clash : Fault ≡ Receipt receipt.handheld receipt.number position = sym faults.0 ∙ receipt.told in absurd cc,
  no_receipts images turns faults.1,
)

-- the receipts after a turn, by its reply
kept_by : (images : List ℕ → Type 0) (reply : Reply) (state : State) (turn : Turn) (turns : List Turn) (next : State)
    → ((between : State) → Steps between turns next → AllByRecursion (IsReceiptKept images) turns) → StepsBy reply state turn turns next
    → AllByRecursion (IsReceiptKept images) turns
kept_by images (Receipt handheld number position) state turn turns next rest steps = rest steps.0 steps.2
kept_by images (Conflict position) state turn turns next rest steps = rest steps.0 steps.2
kept_by images (Denied fact rule) state turn turns next rest steps = rest steps.0 steps.2
kept_by images (Full facts) state turn turns next rest steps = rest steps.0 steps.2
kept_by images (Shown text) state turn turns next rest steps = rest steps.0 steps.2
kept_by images (NoSuch what) state turn turns next rest steps = rest steps.0 steps.2
kept_by images Fault state turn turns next rest steps = no_receipts images turns steps.others
kept_by images Memory state turn turns next rest steps = rest steps.0 steps.2

-- the receipts of a group
group_kept : (images : List ℕ → Type 0) (turns : List Turn) (state next : State)
    → ((position : ℕ) (batch : Batch) → batch_at next.history position ≡ Some batch → (image : List ℕ) → images image → HoldsAt image position batch)
    → Steps state turns next → AllByRecursion (IsReceiptKept images) turns
group_kept images [] state next holds steps = tt
group_kept images (turn ∷ turns) state next holds steps = (
  λ batch position receipt image now. holds position batch (turn_holds state turn turns next batch position receipt steps) image now,
  kept_by images turn.reply state turn turns next (λ between rest. group_kept images turns between next holds rest) steps,
)

-- the receipts of a run
receipts_of_run : (left : ℕ → List ℕ → Type 0) (start end : Moment) (calls : List Call) → Runs start calls end → AreBehind left calls
    → AreReceiptsKept left calls
receipts_of_run left start end [] run behind = tt
receipts_of_run left start end (call ∷ calls) run behind = (
  group_kept (left call.end.clock) call.turns start.state call.end.state
      (λ position batch holds image now. run_holds call.end end calls position batch image run.1 holds (behind.0 image now)) run.0.steps,
  receipts_of_run left call.end end calls run.1 behind.1,
)

-- the receipts of calls that lead from an office to its later value
told_receipts : {D : Type 0} (left_of : D → ℕ → List ℕ → Type 0) (clock_of faults_of : D → ℕ) (old new : Shelf D) (calls : List Call) (x : Option (List ℕ))
    → Runs (moment_of clock_of faults_of old) calls (moment_of clock_of faults_of new) → Told x (λ _. IsSafe clock_of left_of old calls new)
    → Told x (λ _. AreReceiptsKept (left_of new.disk) calls)
told_receipts left_of clock_of faults_of old new calls None runs safe = tt
told_receipts left_of clock_of faults_of old new calls (Some bytes) runs safe =
    receipts_of_run (left_of new.disk) (moment_of clock_of faults_of old) (moment_of clock_of faults_of new) calls runs safe.behind

pub receipts_are_behind : {D : Type 0} (content_of : D → Option (List ℕ)) (left_of : D → ℕ → List ℕ → Type 0) (clock_of name_of faults_of : D → ℕ)
    (old new : Shelf D) (calls : List Call) → Leads content_of left_of clock_of name_of faults_of old calls new
    → Told (content_of old.disk) (λ _. AreReceiptsKept (left_of new.disk) calls)
receipts_are_behind content_of left_of clock_of name_of faults_of old new calls leads =
    told_receipts left_of clock_of faults_of old new calls (content_of old.disk) leads.runs leads.safe
