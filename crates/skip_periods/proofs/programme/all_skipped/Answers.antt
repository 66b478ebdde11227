use Rattle.std.proofs.Common.{◌+◌, ◌++◌, map, ap, ◌∙◌, arith}
use Rattle.list_words.specs.Ranges.{until}
use Rattle.ldar_law.specs.Skips as law
use Rattle.skip_periods.proofs.PassLemmas.{map_until, map_done}
use Rattle.skip_periods.proofs.StreakLemmas.{told_first, told_next, skipped_by_streak}
use Rattle.skip_periods.proofs.programme.all_skipped.Goals as goal

pub loop-past-init : goal.loop-past-init
loop-past-init c =
    let a = c.args in
    record {
      told = told_first a.tallies.now a.elections.now a.startup;
      skips = omega arith;
      good = omega arith;
      done = ap (λ bs. bs ++ map (law.is_skipped a.tallies.now a.elections.now a.startup) (until 1 (a.quarter + 1))) c.in_ok-all.ensures.items;
    }

pub loop-past-preserved : goal.loop-past-preserved
loop-past-preserved c =
    let a = c.args in
    let l = c.loop-past in
    let more = c.longer-streak.ensures in
    let is_skipped = law.is_skipped a.tallies.now a.elections.now a.startup in
    let skip = c.skips_after-is_skipped.ensures.value ∙ ap (λ mode. law.skips_after mode l.streak.skips l.streak.good)
    (c.ordered_mode_on-mode.ensures.value ∙ ap (law.mode_on a.elections.now) c.quarter_first.ensures.value) in
    record {
      told =
          told_next a.tallies.now a.elections.now a.startup (l.past + 1) (omega arith) l.streak c.longer-streak.result
          c.skips_after-is_skipped.result c.was_good.result skip c.was_good.ensures.value l.invariant.told more.value;
      skips = omega (arith, more.skips, l.invariant.skips);
      good = omega (arith, more.good, l.invariant.good);
      done =
          ap (λ bs. bs ++ map is_skipped (until (l.past + 1 + 1) (a.quarter + 1))) c.in_ok-push.ensures.items
          ∙ map_until is_skipped l.all.items (l.past + 1) (a.quarter + 1) c.skips_after-is_skipped.result (omega arith)
          (skip ∙ skipped_by_streak a.tallies.now a.elections.now a.startup (l.past + 1) l.streak l.invariant.told)
          ∙ l.invariant.done;
    }

pub returns : goal.returns
returns c =
    let a = c.args in
    let l = c.loop-past in
    record {
      value = map_done (law.is_skipped a.tallies.now a.elections.now a.startup) l.all.items _ (l.past + 1) (a.quarter + 1) (omega arith) l.invariant.done;
    }
