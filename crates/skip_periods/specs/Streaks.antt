-- How many quarters in a row were skipped, and how many good ones came before.
use Rattle.std.specs.Prelude.{◌≡◌, List}
use Rattle.skip_periods.specs.declared.streak.Streak.{Streak}
use Rattle.ldar_law.specs.Skips.{Past, good_streak, skips_run}

-- the streak of these quarters, latest first
abbrev pub Tells : Streak → List Past → Type 0
Tells streak before = (streak.skips ≡ skips_run before) × (streak.good ≡ good_streak before)
