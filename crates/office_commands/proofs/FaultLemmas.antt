-- In a run of the machine, a reply is a disk error only if the disk's count of errors rose.
use Rattle.std.proofs.Common.{◌≡◌, ◌⊎◌, inl, inr, ℕ, ◌≤◌, List, [], ◌∷◌, ◌++◌, sym, ◌∙◌, arith}
use Rattle.std.specs.List.{AllByRecursion}
use Rattle.std.proofs.Math.Nat.{eq-or-lt_of_le}
use Rattle.disk_model.specs.Faults.{Rose}
use Rattle.ldar_law.specs.declared.reply.Reply.{Reply}
use Rattle.ldar_law.specs.declared.reply.Reply.TheVariants.{Receipt, Conflict, Denied, Full, Shown, NoSuch, Fault, Memory}
use Rattle.ldar_law.specs.Machine.{State, Moment, Call, Turn, HasFault, Step, Steps, BreaksOff, IsOfCall, Runs}
use Rattle.ldar_session.specs.Served.{turns_in}
use Rattle.office_commands.proofs.ConnectionLemmas.{run_keeps}
use Rattle.office_commands.proofs.RulyLemmas.{StepsBy}

-- some turn keeps to this
abbrev pub AnyTurn : (Turn → Type 0) → List Turn → Type 0
AnyTurn P [] = ⊥
AnyTurn P (turn ∷ turns) = P turn ⊎ AnyTurn P turns

any_parts : (P : Turn → Type 0) (first second : List Turn) → AnyTurn P (first ++ second) → AnyTurn P first ⊎ AnyTurn P second
any_parts P [] second any = inr any
any_parts P (turn ∷ first) second (inl here) = inl (inl here)
any_parts P (turn ∷ first) second (inr later) = elim (any_parts P first second later) [ inl one ↦ inl (inr one) | inr two ↦ inr two ]

-- the last one does
pub any_last : (P : Turn → Type 0) (before : List Turn) (last : Turn) → P last → AnyTurn P (before ++ last ∷ [])
any_last P [] last holds = inl holds
any_last P (turn ∷ before) last holds = inr (any_last P before last holds)

-- a turn is answered a fault
abbrev pub IsFault : Turn → Type 0
IsFault turn = turn.reply ≡ Fault

-- ---- one group

others_faulty : {A : Type 0} (state : State) (turn : Turn) (turns : List Turn) (next : State) → ¬ A
    → ((between : State) → Steps between turns next → AnyTurn IsFault turns → AnyTurn HasFault turns)
    → (between : State) × Step state turn between × Steps between turns next → A ⊎ AnyTurn IsFault turns → HasFault turn ⊎ AnyTurn HasFault turns
others_faulty state turn turns next never rest steps (inl is) = absurd (never is)
others_faulty state turn turns next never rest steps (inr later) = inr (rest steps.0 steps.2 later)

break_faulty : (state : State) (turn : Turn) (turns : List Turn) (next : State) → BreaksOff state turn turns next → HasFault turn
break_faulty state turn turns next breaks = elim breaks.leaves [ inl leaves ↦ leaves.faulty | inr leaves ↦ leaves.faulty ]

steps_faulty_by : (reply : Reply) (state : State) (turn : Turn) (turns : List Turn) (next : State)
    → ((between : State) → Steps between turns next → AnyTurn IsFault turns → AnyTurn HasFault turns) → StepsBy reply state turn turns next
    → (reply ≡ Fault) ⊎ AnyTurn IsFault turns → HasFault turn ⊎ AnyTurn HasFault turns
steps_faulty_by (Receipt handheld number position) state turn turns next rest steps any =
    others_faulty state turn turns next (λ is. absurd cc) rest steps any
steps_faulty_by (Conflict position) state turn turns next rest steps any = others_faulty state turn turns next (λ is. absurd cc) rest steps any
steps_faulty_by (Denied fact rule) state turn turns next rest steps any = others_faulty state turn turns next (λ is. absurd cc) rest steps any
steps_faulty_by (Full facts) state turn turns next rest steps any = others_faulty state turn turns next (λ is. absurd cc) rest steps any
steps_faulty_by (Shown text) state turn turns next rest steps any = others_faulty state turn turns next (λ is. absurd cc) rest steps any
steps_faulty_by (NoSuch what) state turn turns next rest steps any = others_faulty state turn turns next (λ is. absurd cc) rest steps any
steps_faulty_by Fault state turn turns next rest steps any = inl (break_faulty state turn turns next steps)
steps_faulty_by Memory state turn turns next rest steps any = others_faulty state turn turns next (λ is. absurd cc) rest steps any

steps_faulty : (turns : List Turn) (state next : State) → Steps state turns next → AnyTurn IsFault turns → AnyTurn HasFault turns
steps_faulty [] state next steps any = absurd any
steps_faulty (turn ∷ turns) state next steps any =
    steps_faulty_by turn.reply state turn turns next (λ between rest. steps_faulty turns between next rest) steps any

-- a turn with a fault rose the count of its call
call_rose : (start end : Moment) (before : ℕ) (turns : List Turn) → start.faults ≤ before → AllByRecursion (IsOfCall before end) turns
    → AnyTurn HasFault turns → Rose start.faults end.faults
call_rose start end before [] later own any = absurd any
call_rose start end before (turn ∷ turns) later own (inl faulty) = elim faulty [
  | inl less ↦ inl (omega (arith, later, less, own.0.begins, own.0.counts))
  | inr most ↦ inr (sym own.0.counts ∙ most)
]
call_rose start end before (turn ∷ turns) later own (inr more) = call_rose start end before turns later own.1 more

-- ---- a run

-- a count that rose, and rises no more or more
pub rose_on : (old middle new : ℕ) → Rose old middle → old ≤ middle → middle ≤ new → Rose old new
rose_on old middle new (inl less) first second = inl (omega (arith, less, second))
rose_on old middle new (inr most) first second = elim (eq-or-lt_of_le second) [
  | inl same ↦ inr (sym same ∙ most)
  | inr less ↦ inl (omega (arith, less, first))
]

pub rose_since : (old middle new : ℕ) → old ≤ middle → Rose middle new → Rose old new
rose_since old middle new first (inl less) = inl (omega (arith, less, first))
rose_since old middle new first (inr most) = inr most

pub run_rose : (calls : List Call) (start end : Moment) → Runs start calls end → AnyTurn IsFault (turns_in calls) → Rose start.faults end.faults
run_rose [] start end run any = absurd any
run_rose (call ∷ calls) start end run any =
    let count = run.0.count in
    let first : start.faults ≤ call.end.faults = omega (arith, count.0, count.1) in
    elim (any_parts IsFault call.turns (turns_in calls) any) [
      | inl here ↦ rose_on start.faults call.end.faults end.faults
          (call_rose start call.end run.0.before call.turns count.0 run.0.call
          (steps_faulty call.turns start.state call.end.state run.0.steps here)) first (run_keeps calls call.end end run.1).0
      | inr later ↦ rose_since start.faults call.end.faults end.faults first (run_rose calls call.end end run.1 later)
    ]
