use Rattle.std.proofs.Common.{◌≡◌, ◌+◌, ◌-◌, ◌≤◌, ◌++◌, map}
use Rattle.list_words.specs.Ranges.{until}
use Rattle.ldar_law.specs.Skips as law
use Rattle.skip_periods.specs.Streaks.{Tells}
use Rattle.skip_periods.proofs.programme.all_skipped.Given as goal

abbrev pub invariant-loop-past : goal.invariant-loop-past
invariant-loop-past l = record {
  told : Tells l.streak (law.quarters l.tallies l.elections l.startup (l.past + 1 - 1));
  skips : l.streak.skips ≤ l.past;
  good : l.streak.good ≤ l.past;
  done :
      l.all.items ++ map (law.is_skipped l.tallies l.elections l.startup) (until (l.past + 1) (l.quarter + 1))
      ≡ law.skipped_to l.tallies l.elections l.startup l.quarter;
}
