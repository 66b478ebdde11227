-- A run of the machine keeps its history ruly, with the batches in doubt too.
use Rattle.std.proofs.Common.{◌≡◌, inl, inr, ℕ, Bool, true, false, if◌then◌else◌, IsTrue, Option, Some}
use Rattle.std.proofs.Common.{None, List, [], ◌∷◌, ◌++◌, refl, sym, ◌∙◌, ap, subst, append_assoc}
use Rattle.std.proofs.lemmas.Bool.{and_parts, and_from}
use Rattle.std.proofs.lemmas.List.{append-nil}
use Rattle.std.specs.Option.{is_none}
use Rattle.fact_kinds.specs.declared.batch.Batch.{Batch}
use Rattle.fact_kinds.specs.Identity.{identity_of, position_of}
use Rattle.ldar_law.specs.declared.reply.Reply.{Reply}
use Rattle.ldar_law.specs.declared.reply.Reply.TheVariants.{Receipt, Conflict, Denied, Full, Shown, NoSuch, Fault, Memory}
use Rattle.ldar_law.specs.declared.request.Request.{Request}
use Rattle.ldar_law.specs.declared.request.Request.TheVariants.{Sync, Due, Tags, Delays, Route, Percent, Report as ReportView}
use Rattle.ldar_law.specs.Machine.{State, Moment, Call, Turn, Finding, not_asked, they_stand, they_are_gone, Answers, AnswersBatch, settled, is_accepted}
use Rattle.ldar_law.specs.Machine.{batch_added, batches_added, IsAnswered, IsWanting, BreaksOff, Step, Steps, Runs}
use Rattle.ldar_law.specs.Verdicts.{is_pass, is_ruly, verdict_on}
use Rattle.ldar_law.proofs.BatchLemmas.{ruly_by_one_more}
use Rattle.office_book.specs.Safe.{StandsIn, StandsInRun}
use Rattle.office_commands.specs.Connection.{OpensRuly}

-- the history of a state is ruly, and so it is with the batches in doubt
pub record IsRulyState (state : State) : Type 0 where
  pub history : IsTrue (is_ruly state.history)
  pub doubt : IsTrue (is_ruly (state.history ++ state.doubt))

-- ---- batches that are accepted

-- an accepted batch after a ruly history makes a ruly history
accepted_ruly : (history : List Batch) (batch : Batch) → IsTrue (is_ruly history) → IsTrue (is_accepted history batch)
    → IsTrue (is_ruly (history ++ batch ∷ []))
accepted_ruly history batch ruly accepted =
    let parts = and_parts (is_none (position_of (identity_of batch) history)) (is_pass (verdict_on history batch)) accepted in
    ruly_by_one_more history batch ∙ and_from (is_ruly history) (is_pass (verdict_on history batch)) ruly parts.1

-- .. and so does one that a request adds
accepted_by : (b : Bool) (batch other : Batch) → (if b then Some batch else None) ≡ Some other → IsTrue b × (batch ≡ other)
accepted_by true batch other is = (refl, same_some batch other is)
  where
    same_some : (x y : Batch) → Some x ≡ Some y → x ≡ y
    same_some x y e = cc
accepted_by false batch other is = absurd cc

added_ruly : (history : List Batch) (request : Request) (batch : Batch) → IsTrue (is_ruly history) → batch_added history request ≡ Some batch
    → IsTrue (is_ruly (history ++ batch ∷ []))
added_ruly history (Sync one) batch ruly is =
    let by = accepted_by (is_accepted history one) one batch is in
    subst (λ (b : Batch). IsTrue (is_ruly (history ++ b ∷ []))) by.1 (accepted_ruly history one ruly by.0)
added_ruly history (Due unit day) batch ruly is = absurd cc
added_ruly history (Tags unit day) batch ruly is = absurd cc
added_ruly history (Delays unit day) batch ruly is = absurd cc
added_ruly history (Route unit day stops) batch ruly is = absurd cc
added_ruly history (Percent unit quarter day) batch ruly is = absurd cc
added_ruly history (ReportView unit half day) batch ruly is = absurd cc

-- what a turn and the turns after it add keeps a history ruly
turn_added_ruly : (history : List Batch) (request : Request) (turns : List Turn) (found : Option Batch) → batch_added history request ≡ found
    → ((longer : List Batch) → IsTrue (is_ruly longer) → IsTrue (is_ruly (longer ++ batches_added longer turns))) → IsTrue (is_ruly history)
    → IsTrue (is_ruly (history ++ (elim found [
      | None ↦ batches_added history turns
      | Some batch ↦ batch ∷ batches_added (history ++ batch ∷ []) turns
    ])))
turn_added_ruly history request turns None is others ruly = others history ruly
turn_added_ruly history request turns (Some batch) is others ruly =
    subst (λ (l : List Batch). IsTrue (is_ruly l)) (append_assoc history (batch ∷ []) (batches_added (history ++ batch ∷ []) turns))
    (others (history ++ batch ∷ []) (added_ruly history request batch ruly is))

-- what turns add keeps a history ruly
all_added_ruly : (turns : List Turn) (history : List Batch) → IsTrue (is_ruly history) → IsTrue (is_ruly (history ++ batches_added history turns))
all_added_ruly [] history ruly = subst (λ (l : List Batch). IsTrue (is_ruly l)) (sym (append-nil history)) ruly
all_added_ruly (turn ∷ turns) history ruly =
    turn_added_ruly history turn.request turns (batch_added history turn.request) refl (λ longer holds. all_added_ruly turns longer holds) ruly

-- ---- steps of the machine

same_ruly : (old new : List Batch) → new ≡ old → IsTrue (is_ruly old) → IsTrue (is_ruly new)
same_ruly old new same ruly = subst (λ (l : List Batch). IsTrue (is_ruly l)) (sym same) ruly

batch_ruly : (history : List Batch) (batch : Batch) (reply : Reply) (after : List Batch) → AnswersBatch history batch reply after
    → IsTrue (is_ruly history) → IsTrue (is_ruly after)
batch_ruly history batch (Receipt handheld number position) after answers ruly = elim answers.2 [
  | inl kept ↦ same_ruly history after kept.1 ruly
  | inr new ↦ same_ruly (history ++ batch ∷ []) after new.2 (accepted_ruly history batch ruly new.0)
]
batch_ruly history batch (Conflict position) after answers ruly = same_ruly history after answers.3 ruly
batch_ruly history batch (Denied fact rule) after answers ruly = same_ruly history after answers.2 ruly
batch_ruly history batch (Full facts) after answers ruly = same_ruly history after answers.2 ruly
batch_ruly history batch (Shown text) after answers ruly = absurd answers
batch_ruly history batch (NoSuch what) after answers ruly = absurd answers
batch_ruly history batch Fault after answers ruly = absurd answers
batch_ruly history batch Memory after answers ruly = absurd answers

answer_ruly : (history : List Batch) (request : Request) (reply : Reply) (after : List Batch) → Answers history request reply after
    → IsTrue (is_ruly history) → IsTrue (is_ruly after)
answer_ruly history (Sync batch) reply after answers ruly = batch_ruly history batch reply after answers ruly
answer_ruly history (Due unit day) reply after answers ruly = same_ruly history after answers.1 ruly
answer_ruly history (Tags unit day) reply after answers ruly = same_ruly history after answers.1 ruly
answer_ruly history (Delays unit day) reply after answers ruly = same_ruly history after answers.1 ruly
answer_ruly history (Route unit day stops) reply after answers ruly = same_ruly history after answers.1 ruly
answer_ruly history (Percent unit quarter day) reply after answers ruly = same_ruly history after answers.1 ruly
answer_ruly history (ReportView unit half day) reply after answers ruly = same_ruly history after answers.1 ruly

-- a ruly history with nothing in doubt
certain_ruly : (state : State) → state.doubt ≡ [] → IsTrue (is_ruly state.history) → IsRulyState state
certain_ruly state none ruly = record {
  history = ruly;
  doubt = same_ruly state.history (state.history ++ state.doubt) (ap (λ (l : List Batch). state.history ++ l) none ∙ append-nil state.history) ruly;
}

settled_ruly : (found : Finding) (state : State) → IsRulyState state → IsRulyState (settled found state)
settled_ruly not_asked state ruly = ruly
settled_ruly they_stand state ruly = certain_ruly (settled they_stand state) refl ruly.doubt
settled_ruly they_are_gone state ruly = certain_ruly (settled they_are_gone state) refl ruly.history

-- a turn, by its reply
abbrev pub GoesBy : Reply → State → Turn → State → Type 0
GoesBy reply state turn next = elim reply [ Fault ↦ ⊥ | Memory ↦ IsWanting state turn next | other ↦ IsAnswered state turn next ]

-- .. and those after it
abbrev pub StepsBy : Reply → State → Turn → List Turn → State → Type 0
StepsBy reply state turn turns next = elim reply [
  | Fault ↦ BreaksOff state turn turns next
  | other ↦ (between : State) × Step state turn between × Steps between turns next
]

answered_ruly : (state : State) (turn : Turn) (next : State) → IsAnswered state turn next → IsRulyState state → IsRulyState next
answered_ruly state turn next answered ruly =
    certain_ruly next answered.none_left (answer_ruly state.history turn.request turn.reply next.history answered.answers ruly.history)

turn_ruly : (reply : Reply) (state : State) (turn : Turn) (next : State) → GoesBy reply state turn next → IsRulyState state → IsRulyState next
turn_ruly (Receipt handheld number position) state turn next goes ruly = answered_ruly state turn next goes ruly
turn_ruly (Conflict position) state turn next goes ruly = answered_ruly state turn next goes ruly
turn_ruly (Denied fact rule) state turn next goes ruly = answered_ruly state turn next goes ruly
turn_ruly (Full facts) state turn next goes ruly = answered_ruly state turn next goes ruly
turn_ruly (Shown text) state turn next goes ruly = answered_ruly state turn next goes ruly
turn_ruly (NoSuch what) state turn next goes ruly = answered_ruly state turn next goes ruly
turn_ruly Fault state turn next goes ruly = absurd goes
turn_ruly Memory state turn next goes ruly = subst IsRulyState (sym goes.stays) ruly

step_ruly : (state : State) (turn : Turn) (next : State) → Step state turn next → IsRulyState state → IsRulyState next
step_ruly state turn next step ruly =
    turn_ruly turn.reply (settled turn.found state) turn next step.goes_on (settled_ruly turn.found state ruly)

break_ruly : (state : State) (turn : Turn) (turns : List Turn) (next : State) → BreaksOff state turn turns next → IsRulyState state → IsRulyState next
break_ruly state turn turns next breaks ruly =
    let before = settled_ruly turn.found state ruly in
    elim breaks.leaves [
      | inl leaves ↦ subst IsRulyState (sym leaves.stays) before
      | inr leaves ↦ subst IsRulyState (sym leaves.leaves)
          (record { history = before.history; doubt = all_added_ruly (turn ∷ turns) (settled turn.found state).history before.history })
    ]

on_ruly : (state : State) (turn : Turn) (turns : List Turn) (next : State)
    → ((between : State) → Steps between turns next → IsRulyState between → IsRulyState next)
    → (between : State) × Step state turn between × Steps between turns next → IsRulyState state → IsRulyState next
on_ruly state turn turns next rest steps ruly = rest steps.0 steps.2 (step_ruly state turn steps.0 steps.1 ruly)

steps_ruly_by : (reply : Reply) (state : State) (turn : Turn) (turns : List Turn) (next : State)
    → ((between : State) → Steps between turns next → IsRulyState between → IsRulyState next) → StepsBy reply state turn turns next
    → IsRulyState state → IsRulyState next
steps_ruly_by (Receipt handheld number position) state turn turns next rest steps ruly = on_ruly state turn turns next rest steps ruly
steps_ruly_by (Conflict position) state turn turns next rest steps ruly = on_ruly state turn turns next rest steps ruly
steps_ruly_by (Denied fact rule) state turn turns next rest steps ruly = on_ruly state turn turns next rest steps ruly
steps_ruly_by (Full facts) state turn turns next rest steps ruly = on_ruly state turn turns next rest steps ruly
steps_ruly_by (Shown text) state turn turns next rest steps ruly = on_ruly state turn turns next rest steps ruly
steps_ruly_by (NoSuch what) state turn turns next rest steps ruly = on_ruly state turn turns next rest steps ruly
steps_ruly_by Fault state turn turns next rest steps ruly = break_ruly state turn turns next steps ruly
steps_ruly_by Memory state turn turns next rest steps ruly = on_ruly state turn turns next rest steps ruly

-- the steps of a group keep a state ruly
steps_ruly : (turns : List Turn) (state next : State) → Steps state turns next → IsRulyState state → IsRulyState next
steps_ruly [] state next steps ruly = subst IsRulyState (sym steps) ruly
steps_ruly (turn ∷ turns) state next steps ruly =
    steps_ruly_by turn.reply state turn turns next (λ between rest. steps_ruly turns between next rest) steps ruly

-- ---- images

-- an image that opens in a ruly state opens to a ruly history
stands_ruly : (state : State) (image : List ℕ) → IsRulyState state → StandsIn state image → OpensRuly image
stands_ruly state image ruly stands = elim stands [
  | inl before ↦ record { history = state.history; opens = before; ruly = ruly.history }
  | inr after ↦ record { history = state.history ++ state.doubt; opens = after; ruly = ruly.doubt }
]

-- .. and so does one that opens in a run from a ruly state
pub run_ruly : (calls : List Call) (start end : Moment) (image : List ℕ) → Runs start calls end → IsRulyState start.state
    → StandsInRun start.state calls image → OpensRuly image
run_ruly [] start end image run ruly stands = stands_ruly start.state image ruly stands
run_ruly (call ∷ calls) start end image run ruly stands = elim stands [
  | inl here ↦ stands_ruly start.state image ruly here
  | inr later ↦ run_ruly calls call.end end image run.1 (steps_ruly call.turns start.state call.end.state run.0.steps ruly) later
]

-- a ruly history with nothing in doubt is a ruly state
pub is_ruly_state : (state : State) → state.doubt ≡ [] → IsTrue (is_ruly state.history) → IsRulyState state
is_ruly_state state none ruly = certain_ruly state none ruly
