-- Weeks from Monday to Sunday.
use Rattle.std.proofs.Common.{◌≡◌, ℕ, ◌≤◌, pos, arith}
use Rattle.jiff_core.specs.Calendar.{weekday_number}
use Rattle.jiff_core.proofs.SignedLemmas.{signed_arith}
use Rattle.jiff_core.proofs.CalendarLemmas.{weekday_number-parts}
use Rattle.ldar_days.specs.Calendar.{week_first}

-- a week begins on a Monday
pub week_first-monday : (w : ℕ) → 1 ≤ w → weekday_number (pos (week_first w)) ≡ 0
week_first-monday w h = omega (arith, signed_arith, weekday_number-parts (pos (week_first w)))

-- for the body of `Day::week`
pub ruleset weeks = (week_first-monday)
