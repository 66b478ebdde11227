use Rattle.std.proofs.Common.{◌∙◌}
use Rattle.skip_periods.proofs.StreakLemmas.{skipped_by_streak}
use Rattle.skip_periods.proofs.programme.skipped.Goals as goal

pub returns : goal.returns
returns c =
    let a = c.args in
    record {
      value = c.is_skipped_after.ensures.value
          ∙ skipped_by_streak a.tallies.now a.elections.now a.startup a.quarter c.streak_before-streak.result c.streak_before-streak.ensures.value;
    }
