use Rattle.std.proofs.Common.{◌≡◌, ◌≤◌, length, take}
use Rattle.std.specs.List.{filter_map}
use Rattle.touched_readings.specs.Windows.{window_of}
use Rattle.touched_readings.proofs.batch.put_windows.Given as goal

abbrev pub invariant-loop-fact : goal.invariant-loop-fact
invariant-loop-fact l = record {
  value : take l.count l.windows ≡ filter_map window_of (take l.fact-index l.facts);
  few : l.count ≤ l.fact-index;
  length : length l.windows ≡ length l.initial.windows;
}
