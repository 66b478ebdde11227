-- Runs of the machine from the view of a connection.
use Rattle.std.proofs.Common.{◌≡◌, ◌≤◌, ℕ, List, [], ◌∷◌, arith}
use Rattle.std.specs.List.{AllByRecursion}
use Rattle.ldar_law.specs.Machine.{Call, Turn, Moment, Runs, IsOfCall}
use Rattle.ldar_session.specs.Served.{HasItsClock}

-- turns of a call have its clock
own_clocks : (before : ℕ) (end : Moment) (turns : List Turn) → AllByRecursion (IsOfCall before end) turns
    → AllByRecursion (λ turn. turn.clock ≡ end.clock) turns
own_clocks before end [] each = tt
own_clocks before end (turn ∷ turns) each = (each.0.returns, own_clocks before end turns each.1)

-- the turns of each call of a run have the clock at which the call returned
pub runs_have_clocks : (start end : Moment) (calls : List Call) → Runs start calls end → AllByRecursion HasItsClock calls
runs_have_clocks start end [] run = tt
runs_have_clocks start end (call ∷ calls) run = (own_clocks run.0.before call.end call.turns run.0.call, runs_have_clocks call.end end calls run.1)

-- a run never sets the clock back; so no stamp of a connection is past the clock at its end if the calls of its office are a run
pub run_never_falls : (start end : Moment) (calls : List Call) → Runs start calls end → start.clock ≤ end.clock
run_never_falls start end [] run = run.2
run_never_falls start end (call ∷ calls) run =
    omega (arith, run.0.time, run_never_falls call.end end calls run.1)
