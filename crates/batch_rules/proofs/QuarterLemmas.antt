use Rattle.std.proofs.Common.{◌≡◌, ℕ, ◌+◌, ◌<◌, ◌≤◌, false, refl, arith}
use Rattle.std.proofs.lemmas.Bool.{lt-ltb}
use Rattle.ldar_days.specs.Calendar.{month_of}
use Rattle.ldar_days.specs.Quarters.{first_quarter}
use Rattle.ldar_days.proofs.Months.{month_of-near}
use Rattle.ldar_days.proofs.Quarters.{last_whole-near}
use Rattle.ldar_law.specs.Denials.{begins_quarter}

-- a unit whose startup is after the last day of a fact has no quarter by then
first_quarter-later : (startup day : ℕ) → 46_751 < startup → day ≤ 46_751 → month_of day < first_quarter startup
unfolding first_quarter
first_quarter-later startup day late in_time =
    let near_day = month_of-near day in
    let near_start = month_of-near (startup + 180) in
    let whole = last_whole-near (startup + 180) in
    omega (arith, late, in_time, near_day.0, near_day.1, near_start.0, near_start.1, whole.0, whole.1)

-- .. so no day begins one
pub begins_no_quarter : (startup day : ℕ) → 46_751 < startup → day ≤ 46_751 → begins_quarter startup day ≡ false
begins_no_quarter startup day late in_time =
    let before = lt-ltb (month_of day) (first_quarter startup) (first_quarter-later startup day late in_time) in
    rw (before, begins_quarter) refl
