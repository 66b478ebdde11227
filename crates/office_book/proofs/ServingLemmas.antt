-- The replies to the requests of a group are steps of the machine.
use Rattle.std.proofs.Common.{◌≡◌, ◌≢◌, inl, inr, ℕ, Bool, true, false, Option, Some, None, List, [], ◌∷◌, ◌++◌, length, map, refl, sym, ◌∙◌, ap}
use Rattle.std.proofs.Common.{subst, arith}
use Rattle.std.specs.List.{AllByRecursion}
use Rattle.disk_model.specs.Faults.{Rose}
use Rattle.fact_kinds.specs.declared.batch.Batch.{Batch}
use Rattle.ldar_law.specs.declared.reply.Reply.{Reply}
use Rattle.ldar_law.specs.declared.reply.Reply.TheVariants.{Receipt, Conflict, Denied, Full, Shown, NoSuch, Fault, Memory}
use Rattle.ldar_law.specs.declared.request.Request.{Request}
use Rattle.ldar_law.specs.Machine.{State, Moment, Turn, Finding, not_asked, Answers, TakesMemory, batch_added, batches_added}
use Rattle.ldar_law.specs.Machine.{settled, CanBeFound, IsAnswered, IsWanting, BreaksOff, Steps, IsOfCall}
use Rattle.office_book.specs.Serving.{certain, uncertain, added, Stops, Serves, turn_of, turns_of, has_some}

-- the batches that turns add are those that their requests add
added_by_turns : (found : Finding) (doubt : Bool) (before : ℕ) (end : Moment) (history : List Batch) (requests : List Request) (replies : List Reply)
    → length replies ≡ length requests → batches_added history (turns_of found doubt before end requests replies) ≡ added history requests
added_by_turns found doubt before end history [] replies same = refl
added_by_turns found doubt before end history (request ∷ requests) [] same = absurd (omega arith)
added_by_turns found doubt before end history (request ∷ requests) (reply ∷ replies) same =
    elim (batch_added history request) as (λ one. (elim one [
      | None ↦ batches_added history (turns_of not_asked doubt before end requests replies)
      | Some batch ↦ batch ∷ batches_added (history ++ batch ∷ []) (turns_of not_asked doubt before end requests replies)
    ]) ≡ (elim one [
      | None ↦ added history requests
      | Some batch ↦ batch ∷ added (history ++ batch ∷ []) requests
    ])) [
      | None ↦ added_by_turns not_asked doubt before end history requests replies (omega arith)
      | Some batch ↦ ap (λ (l : List Batch). batch ∷ l) (added_by_turns not_asked doubt before end (history ++ batch ∷ []) requests replies (omega arith))
    ]

-- turns whose replies are disk errors
faults_by_turns : (found : Finding) (doubt : Bool) (before : ℕ) (end : Moment) (requests : List Request) (replies : List Reply)
    → AllByRecursion (λ (reply : Reply). reply ≡ Fault) replies
    → AllByRecursion (λ (turn : Turn). turn.reply ≡ Fault) (turns_of found doubt before end requests replies)
faults_by_turns found doubt before end [] replies each = tt
faults_by_turns found doubt before end (request ∷ requests) [] each = tt
faults_by_turns found doubt before end (request ∷ requests) (reply ∷ replies) each =
    (each.0, faults_by_turns not_asked doubt before end requests replies each.1)

-- a reply after a finding
answered : (found : Finding) (state : State) (history after : List Batch) (turn : Turn) → settled found state ≡ certain history → turn.in_doubt ≡ false
    → Answers history turn.request turn.reply after → IsAnswered (settled found state) turn (certain after)
answered found state history after turn is sure answers = record {
  nothing_in_doubt = ap (λ (s : State). s.doubt) is;
  none_left = refl;
  certain = sure;
  answers = subst (λ (h : List Batch). Answers h turn.request turn.reply after) (sym (ap (λ (s : State). s.history) is)) answers;
}

-- out of memory after a finding
wanting : (found : Finding) (state : State) (history : List Batch) (turn : Turn) → settled found state ≡ certain history → turn.in_doubt ≡ false
    → TakesMemory history turn.request → IsWanting (settled found state) turn (certain history)
wanting found state history turn is sure takes = record {
  nothing_in_doubt = ap (λ (s : State). s.doubt) is;
  certain = sure;
  takes = subst (λ (h : List Batch). TakesMemory h turn.request) (sym (ap (λ (s : State). s.history) is)) takes;
  stays = sym is;
}

-- what a request adds is one of the batches in doubt
some_added : (history : List Batch) (request : Request) (requests : List Request) (batch : Batch) → batch_added history request ≡ Some batch
    → has_some (added history (request ∷ requests)) ≡ true
some_added history request requests batch adds = subst (λ (one : Option Batch). has_some (elim one [
  | None ↦ added history requests
  | Some more ↦ more ∷ added (history ++ more ∷ []) requests
]) ≡ true) (sym adds) refl

module _ (faulty : Type 0) (before : ℕ) (end : Moment) (rises : faulty → Rose before end.faults) where
  -- the first disk error
  stopped : (found : Finding) (state : State) (history : List Batch) (request : Request) (requests : List Request) (replies : List Reply)
      → CanBeFound found state → settled found state ≡ certain history → Stops faulty history request requests replies end.state
      → BreaksOff state (turn_of found (has_some end.state.doubt) before end request Fault)
      (turns_of not_asked (has_some end.state.doubt) before end requests replies) end.state
  stopped found state history request requests replies can is stops =
      let same : certain history ≡ settled found state = sym is in
      let adds : batch_added (settled found state).history request ≡ Some stops.batch =
      subst (λ (s : State). batch_added s.history request ≡ Some stops.batch) same stops.adds in
      record {
        can = can;
        leaves = elim stops.leaves [
          | inl stays ↦ inl (record {
            faulty = rises stops.why;
            certain = ap (λ (s : State). has_some s.doubt) stays;
            why = inr (stops.batch, adds);
            stays = stays ∙ same;
          })
          | inr doubt ↦ inr (record {
            faulty = rises stops.why;
            uncertain = ap (λ (s : State). has_some s.doubt) doubt ∙ some_added history request requests stops.batch stops.adds;
            nothing_in_doubt = ap (λ (s : State). s.doubt) is;
            batch = stops.batch;
            adds = adds;
            leaves = doubt
                ∙ ap (λ (l : List Batch). uncertain history l)
                (sym (added_by_turns found (has_some end.state.doubt) before end history (request ∷ requests) (Fault ∷ replies)
                (let each = stops.each in omega arith)))
                ∙ ap (λ (s : State). uncertain s.history (batches_added s.history
                (turns_of found (has_some end.state.doubt) before end (request ∷ requests) (Fault ∷ replies)))) same;
          })
        ];
        others = faults_by_turns not_asked (has_some end.state.doubt) before end requests replies stops.others;
      }

  -- the first reply, and the steps after it
  first_step : (found : Finding) (state : State) (history : List Batch) (request : Request) (requests : List Request) (reply : Reply) (replies : List Reply)
      → CanBeFound found state → settled found state ≡ certain history
      → ((after : List Batch) → Serves faulty after requests replies end.state
      → Steps (certain after) (turns_of not_asked (has_some end.state.doubt) before end requests replies) end.state)
      → Serves faulty history (request ∷ requests) (reply ∷ replies) end.state
      → Steps state (turns_of found (has_some end.state.doubt) before end (request ∷ requests) (reply ∷ replies)) end.state
  first_step found state history request requests (Receipt handheld number position) replies can is rest serves =
      (certain serves.0, record { can = can; goes_on = answered found state history serves.0 _ is refl serves.1 }, rest serves.0 serves.2)
  first_step found state history request requests (Conflict position) replies can is rest serves =
      (certain serves.0, record { can = can; goes_on = answered found state history serves.0 _ is refl serves.1 }, rest serves.0 serves.2)
  first_step found state history request requests (Denied fact rule) replies can is rest serves =
      (certain serves.0, record { can = can; goes_on = answered found state history serves.0 _ is refl serves.1 }, rest serves.0 serves.2)
  first_step found state history request requests (Full facts) replies can is rest serves =
      (certain serves.0, record { can = can; goes_on = answered found state history serves.0 _ is refl serves.1 }, rest serves.0 serves.2)
  first_step found state history request requests (Shown text) replies can is rest serves =
      (certain serves.0, record { can = can; goes_on = answered found state history serves.0 _ is refl serves.1 }, rest serves.0 serves.2)
  first_step found state history request requests (NoSuch what) replies can is rest serves =
      (certain serves.0, record { can = can; goes_on = answered found state history serves.0 _ is refl serves.1 }, rest serves.0 serves.2)
  first_step found state history request requests Fault replies can is rest serves = stopped found state history request requests replies can is serves
  first_step found state history request requests Memory replies can is rest serves =
      (certain history, record { can = can; goes_on = wanting found state history _ is refl serves.0 }, rest history serves.1)

  -- the steps with nothing in doubt
  steps_behind : (history : List Batch) (requests : List Request) (replies : List Reply) → Serves faulty history requests replies end.state
      → Steps (certain history) (turns_of not_asked (has_some end.state.doubt) before end requests replies) end.state
  steps_behind history [] [] serves = serves
  steps_behind history [] (reply ∷ replies) serves = absurd serves
  steps_behind history (request ∷ requests) [] serves = absurd serves
  steps_behind history (request ∷ requests) (reply ∷ replies) serves =
      first_step not_asked (certain history) history request requests reply replies tt refl (λ after rest. steps_behind after requests replies rest) serves

  -- the steps of a group after a finding
  pub serves_steps : (found : Finding) (state : State) (history : List Batch) (request : Request) (requests : List Request) (reply : Reply)
      (replies : List Reply)
      → CanBeFound found state → settled found state ≡ certain history → Serves faulty history (request ∷ requests) (reply ∷ replies) end.state
      → Steps state (turns_of found (has_some end.state.doubt) before end (request ∷ requests) (reply ∷ replies)) end.state
  serves_steps found state history request requests reply replies can is serves =
      first_step found state history request requests reply replies can is (λ after rest. steps_behind after requests replies rest) serves

-- a failed settling: all replies are disk errors, and the state is unchanged
pub faults_steps : (before : ℕ) (end : Moment) (state : State) (request : Request) (requests : List Request) (replies : List Reply)
    → Rose before end.faults → state.doubt ≢ [] → end.state ≡ state → AllByRecursion (λ (reply : Reply). reply ≡ Fault) replies
    → Steps state (turns_of not_asked false before end (request ∷ requests) (Fault ∷ replies)) end.state
faults_steps before end state request requests replies rose doubt stays each = record {
  can = tt;
  leaves = inl (record { faulty = rose; certain = refl; why = inl doubt; stays = stays });
  others = faults_by_turns not_asked false before end requests replies each;
}

-- each turn belongs to its call
pub of_call : (found : Finding) (doubt : Bool) (before : ℕ) (end : Moment) (requests : List Request) (replies : List Reply)
    → AllByRecursion (IsOfCall before end) (turns_of found doubt before end requests replies)
of_call found doubt before end [] replies = tt
of_call found doubt before end (request ∷ requests) [] = tt
of_call found doubt before end (request ∷ requests) (reply ∷ replies) =
    (record { begins = refl; counts = refl; returns = refl }, of_call not_asked doubt before end requests replies)

-- the requests and the replies of the turns
pub requests_asked : (found : Finding) (doubt : Bool) (before : ℕ) (end : Moment) (requests : List Request) (replies : List Reply)
    → length replies ≡ length requests → map (λ (turn : Turn). turn.request) (turns_of found doubt before end requests replies) ≡ requests
requests_asked found doubt before end [] replies same = refl
requests_asked found doubt before end (request ∷ requests) [] same = absurd (omega arith)
requests_asked found doubt before end (request ∷ requests) (reply ∷ replies) same =
    ap (λ (l : List Request). request ∷ l) (requests_asked not_asked doubt before end requests replies (omega arith))

pub replies_given : (found : Finding) (doubt : Bool) (before : ℕ) (end : Moment) (requests : List Request) (replies : List Reply)
    → length replies ≡ length requests → map (λ (turn : Turn). turn.reply) (turns_of found doubt before end requests replies) ≡ replies
replies_given found doubt before end [] [] same = refl
replies_given found doubt before end [] (reply ∷ replies) same = absurd (omega arith)
replies_given found doubt before end (request ∷ requests) [] same = absurd (omega arith)
replies_given found doubt before end (request ∷ requests) (reply ∷ replies) same =
    ap (λ (l : List Reply). reply ∷ l) (replies_given not_asked doubt before end requests replies (omega arith))
