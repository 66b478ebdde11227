use Rattle.std.proofs.Common.{◌≡◌, ℕ, ◌+◌, ◌≤◌, ◌&&◌, length, take}
use Rattle.std.specs.Prelude.{not, sum_by}
use Rattle.touched_readings.specs.Flags.{flag_of}
use Rattle.touched_readings.specs.Windows.{IsDone, readings_with}
use Rattle.touched_readings.proofs.BatchLemmas.{in_some}
use Rattle.touched_readings.proofs.batch.touch_windows.Given as goal

abbrev pub invariant-loop-window : goal.invariant-loop-window
invariant-loop-window g l = record {
  value : (n : ℕ) → flag_of l.fresh n
      ≡ (flag_of l.initial.fresh n && not (in_some (take l.store.listed l.store.arrived) n (take l.window-index l.windows)));
  length : length l.fresh ≡ length l.initial.fresh;
  done : IsDone l.fresh (take l.store.listed l.store.arrived) l.done;
  counted : l.steps ≤ l.initial.steps + sum_by (λ window. readings_with window.instrument l.store.arrived) (take l.window-index l.windows);
}
