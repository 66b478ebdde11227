-- A call of one turn, with the count of errors of the moment before it, and with the count and the clock of a later moment after it.
use Rattle.std.proofs.Common.{◌≡◌, ℕ, ◌-◌, ◌<◌, ◌≤◌, ◌^◌, [], ◌∷◌, refl, sym, ◌∙◌, subst, arith, inl, inr, ⊎_elim}
use mathlib.Core.Logic.{dite}
use native.Mathlib.Decide.{ℕ_discrete}
use Rattle.ldar_law.specs.declared.reply.Reply.{Reply}
use Rattle.ldar_law.specs.declared.reply.Reply.TheVariants.{Receipt, Conflict, Denied, Full, Shown, NoSuch, Fault, Memory}
use Rattle.ldar_law.specs.Machine.{State, Turn, Moment, HasFault, IsAnswered, IsWanting, LeavesState, LeavesDoubt, BreaksOff, Step, Steps}
use Rattle.ldar_law.specs.Machine.{GroupStep, IsOfCall, settled}
use Rattle.office_book.specs.Restamps.{restamped}

-- a turn, by its reply
abbrev GoesAt : State → Turn → State → Reply → Type 0
GoesAt state turn next reply = elim reply [ Fault ↦ ⊥ | Memory ↦ IsWanting state turn next | _ ↦ IsAnswered state turn next ]

-- the only turn of a call
abbrev StepsAt : State → Turn → State → Reply → Type 0
StepsAt state turn next reply = elim reply [
  | Fault ↦ BreaksOff state turn [] next
  | _ ↦ (between : State) × Step state turn between × Steps between [] next
]

module _ (turn : Turn) (before after clock : ℕ) (earlier : before ≤ turn.before) (rises : turn.before ≤ turn.after) (later : turn.after ≤ after) where
  -- a disk error is still one with these counts
  fault_still : HasFault turn → HasFault (restamped turn before after clock)
  fault_still fault =
      ⊎_elim
      (λ (rose : turn.before < turn.after). inl (omega (arith, earlier, later, rose)))
      (λ (last : turn.after ≡ 2 ^ 64 - 1).
      dite
      (ℕ_discrete after turn.after)
      (λ (same : after ≡ turn.after). inr (same ∙ last))
      (λ (other : ¬ (after ≡ turn.after)). inl (omega (arith, earlier, rises, later, other))))
      fault

  -- each other reply is still correct
  answered_still : (state next : State) → IsAnswered state turn next → IsAnswered state (restamped turn before after clock) next
  answered_still state next is = record { nothing_in_doubt = is.nothing_in_doubt; none_left = is.none_left; certain = is.certain; answers = is.answers }

  -- running out of memory is still that
  wanting_still : (state next : State) → IsWanting state turn next → IsWanting state (restamped turn before after clock) next
  wanting_still state next is = record { nothing_in_doubt = is.nothing_in_doubt; certain = is.certain; takes = is.takes; stays = is.stays }

  goes_still : (state next : State) (reply : Reply) → GoesAt state turn next reply → GoesAt state (restamped turn before after clock) next reply
  goes_still state next (Receipt handheld number position) is = answered_still state next is
  goes_still state next (Conflict position) is = answered_still state next is
  goes_still state next (Denied fact rule) is = answered_still state next is
  goes_still state next (Full facts) is = answered_still state next is
  goes_still state next (Shown text) is = answered_still state next is
  goes_still state next (NoSuch what) is = answered_still state next is
  goes_still state next Fault is = absurd is
  goes_still state next Memory is = wanting_still state next is

  step_still : (state next : State) → Step state turn next → Step state (restamped turn before after clock) next
  step_still state next step = record { can = step.can; goes_on = goes_still (settled turn.found state) next turn.reply step.goes_on }

  -- an error that leaves the state is still one
  state_still : (state next : State) → LeavesState state turn next → LeavesState state (restamped turn before after clock) next
  state_still state next is = record { faulty = fault_still is.faulty; certain = is.certain; why = is.why; stays = is.stays }

  -- an error that leaves batches in doubt is still one
  doubt_still : (state next : State) → LeavesDoubt state turn [] next → LeavesDoubt state (restamped turn before after clock) [] next
  doubt_still state next is = record {
    faulty = fault_still is.faulty;
    uncertain = is.uncertain;
    nothing_in_doubt = is.nothing_in_doubt;
    batch = is.batch;
    adds = is.adds;
    leaves = is.leaves;
  }

  breaks_still : (state next : State) → BreaksOff state turn [] next → BreaksOff state (restamped turn before after clock) [] next
  breaks_still state next is = record {
    can = is.can;
    leaves =
        ⊎_elim
        (λ (stays : LeavesState (settled turn.found state) turn next). inl (state_still (settled turn.found state) next stays))
        (λ (doubt : LeavesDoubt (settled turn.found state) turn [] next). inr (doubt_still (settled turn.found state) next doubt))
        is.leaves;
    others = is.others;
  }

  -- the call is still a step
  steps_at : (state next : State) (reply : Reply) → StepsAt state turn next reply → StepsAt state (restamped turn before after clock) next reply
  steps_at state next (Receipt handheld number position) is = (is.0, step_still state is.0 is.1, is.2)
  steps_at state next (Conflict position) is = (is.0, step_still state is.0 is.1, is.2)
  steps_at state next (Denied fact rule) is = (is.0, step_still state is.0 is.1, is.2)
  steps_at state next (Full facts) is = (is.0, step_still state is.0 is.1, is.2)
  steps_at state next (Shown text) is = (is.0, step_still state is.0 is.1, is.2)
  steps_at state next (NoSuch what) is = (is.0, step_still state is.0 is.1, is.2)
  steps_at state next Fault is = breaks_still state next is
  steps_at state next Memory is = (is.0, step_still state is.0 is.1, is.2)

  pub steps_still : (state next : State) → Steps state (turn ∷ []) next → Steps state (restamped turn before after clock ∷ []) next
  steps_still state next is = steps_at state next turn.reply is

-- from a moment to a later one: the turn begins with the count of errors at the first, and ends at the last
pub restamps : (start end last : Moment) (turn : Turn) → GroupStep start (turn ∷ []) end → last.state ≡ end.state → end.faults ≤ last.faults → end.clock ≤ last.clock
    → GroupStep start (restamped turn start.faults last.faults last.clock ∷ []) last
restamps start end last turn group same up on =
    let call : IsOfCall group.before end turn = group.call.0 in
    let count = group.count in
    let earlier : start.faults ≤ turn.before = omega (arith, count.0, call.begins) in
    let rises : turn.before ≤ turn.after = omega (arith, count.1, call.begins, call.counts) in
    let later : turn.after ≤ last.faults = omega (arith, call.counts, up) in
    record {
      some = λ none. cc none;
      fits = omega arith;
      steps = steps_still turn start.faults last.faults last.clock earlier rises later start.state last.state
          (subst (Steps start.state (turn ∷ [])) (sym same) group.steps);
      before = start.faults;
      count = (omega arith, omega (arith, count.0, count.1, up));
      time = let time = group.time in omega (arith, time, on);
      call = (record { begins = refl; counts = refl; returns = refl }, tt);
    }
