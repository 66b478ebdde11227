use Rattle.std.proofs.Common.{◌≤◌, ◌<◌, ◌-◌}
use Rattle.ldar_law.specs.Skips as law
use Rattle.skip_periods.specs.Streaks.{Tells}
use Rattle.skip_periods.proofs.programme.streak_before.Given as goal

abbrev pub invariant-loop-past : goal.invariant-loop-past
invariant-loop-past l = record {
  begun : 1 ≤ l.past;
  told : Tells l.streak (law.quarters l.tallies l.elections l.startup (l.past - 1));
  skips : l.streak.skips < l.past;
  good : l.streak.good < l.past;
}
