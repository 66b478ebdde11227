use Rattle.std.proofs.Common.{arith}
use Rattle.skip_periods.proofs.StreakLemmas.{told_first, told_next}
use Rattle.skip_periods.proofs.programme.streak_before.Goals as goal

pub loop-past-init : goal.loop-past-init
loop-past-init c = record {
  begun = omega arith;
  told = told_first c.args.tallies.now c.args.elections.now c.args.startup;
  skips = omega arith;
  good = omega arith;
}

pub loop-past-preserved : goal.loop-past-preserved
loop-past-preserved c =
    let l = c.loop-past in
    let more = c.longer-streak.ensures in
    record {
      begun = omega arith;
      told =
          told_next c.args.tallies.now c.args.elections.now c.args.startup l.past l.invariant.begun l.streak c.longer-streak.result
          c.is_skipped_after-is_skipped.result c.was_good.result
          c.is_skipped_after-is_skipped.ensures.value c.was_good.ensures.value l.invariant.told more.value;
      skips = omega (arith, more.skips, l.invariant.skips);
      good = omega (arith, more.good, l.invariant.good);
    }
