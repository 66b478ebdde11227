use Rattle.std.proofs.Common.{◌≡◌, ℕ, zero, suc, ◌+◌, ◌-◌, ◌≤◌, Bool, false, List, ◌∷◌, Option, Some, None, option_map, slice_get, refl, ap, subst, ◌∙◌, arith}
use Rattle.std.specs.Option.{option_map_or}
use Rattle.ldar_days.specs.Quarters.{quarter_first}
use Rattle.ldar_law.specs.declared.election.ElectionEntry.{ElectionEntry}
use Rattle.ldar_law.specs.declared.tally.Tally.{Tally}
use Rattle.ldar_law.specs.Percent.{is_good}
use Rattle.ldar_law.specs.Skips.{Past, mode_on, skips, skips_after, skips_run, good_streak, quarters, is_skipped}
use Rattle.skip_periods.specs.declared.streak.Streak.{Streak}
use Rattle.skip_periods.specs.Streaks.{Tells}

-- the mapped value of an option that has a value
pub mapped_or : {X Y : Type 0} (f : X → Y) (given : Option X) (d y : Y) → option_map f given ≡ Some y → y ≡ option_map_or f given d
mapped_or f (Some x) d y e = cc
mapped_or f None d y e = cc

-- the mapped value of an option that is `None`
pub none_mapped : {X Y : Type 0} (f : X → Y) (given : Option X) (d : Y) → option_map f given ≡ None → d ≡ option_map_or f given d
none_mapped f (Some x) d e = cc
none_mapped f None d e = refl

-- the streak of the quarters before one decides whether it is skipped
by_streak : (mode : ℕ) (streak : Streak) (before : List Past) → Tells streak before → skips_after mode streak.skips streak.good ≡ skips mode before
by_streak mode streak before told =
    ap (λ n. skips_after mode n streak.good) told.0 ∙ ap (λ n. skips_after mode (skips_run before) n) told.1

module _ (tallies : List Tally) (elections : List ElectionEntry) (startup : ℕ) where
  -- no quarter is before quarter 1
  pub told_first : Tells (record { skips = 0; good = 0 }) (quarters tallies elections startup 0)
  unfolding quarters skips_run good_streak
  told_first = (refl, refl)

  -- the streak with one more quarter
  pub told_next : (past : ℕ) → 1 ≤ past → (streak next : Streak) (was_skipped was_good : Bool) →
      was_skipped ≡ skips_after (mode_on elections (quarter_first startup past)) streak.skips streak.good →
      was_good ≡ option_map_or is_good (slice_get tallies (past - 1)) false → Tells streak (quarters tallies elections startup (past - 1)) →
      ((before : List Past) → Tells streak before → Tells next ((was_skipped, was_good) ∷ before)) →
      Tells next (quarters tallies elections startup (past + 1 - 1))
  unfolding quarters
  told_next zero begun streak next was_skipped was_good skip good told goes_on = absurd (omega (arith, begun))
  told_next (suc n) begun streak next was_skipped was_good skip good told goes_on =
      let before = quarters tallies elections startup n in
      let mode = mode_on elections (quarter_first startup (suc n)) in
      let down : suc n - 1 ≡ n = omega arith in
      let tells : Tells streak before = subst (λ k. Tells streak (quarters tallies elections startup k)) down told in
      let one : Tells next ((was_skipped, was_good) ∷ before) = goes_on before tells in
      let two : Tells next ((skips mode before, was_good) ∷ before) =
      subst (λ b. Tells next ((b, was_good) ∷ before)) (skip ∙ by_streak mode streak before tells) one in
      let same : suc n ≡ suc n + 1 - 1 = omega arith in
      subst (λ k. Tells next (quarters tallies elections startup k)) same
      (subst (λ b. Tells next ((skips mode before, b) ∷ before)) good two)

  -- the streak before a quarter decides whether it is skipped
  pub skipped_by_streak : (quarter : ℕ) (streak : Streak) → Tells streak (quarters tallies elections startup (quarter - 1)) →
      skips_after (mode_on elections (quarter_first startup quarter)) streak.skips streak.good ≡ is_skipped tallies elections startup quarter
  unfolding is_skipped
  skipped_by_streak quarter streak told =
      by_streak (mode_on elections (quarter_first startup quarter)) streak (quarters tallies elections startup (quarter - 1)) told
