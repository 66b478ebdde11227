-- The quarters of a process unit, three months each (40 CFR 60.481a).
use Rattle.std.specs.Prelude.{ℕ, ◌+◌, ◌-◌, ◌*◌, ◌/◌, ◌≤◌, nat_lt, nat_le, if◌then◌else◌, Option, Some, None}
use Rattle.ldar_days.specs.Calendar.{first_day, last_day, month_of, end_by}

-- all days of the month are within startup + 1 to startup + 180
abbrev pub IsWithin180Days : ℕ → ℕ → Type 0
IsWithin180Days startup m = (startup + 1 ≤ first_day m) × (last_day m ≤ startup + 180)

-- the last month that ends by this day
unfoldable pub last_whole : ℕ → ℕ
last_whole n = if nat_le (last_day (month_of n)) n then month_of n else month_of n - 1

-- 40 CFR 60.481a: the first month of quarter 1; its third month is the last one within startup + 1 to startup + 180
unfoldable pub first_quarter : ℕ → ℕ
first_quarter startup = last_whole (startup + 180) - 2

-- the quarter of a month, counted from 1, or None before quarter 1
abbrev pub quarter_of : ℕ → ℕ → Option ℕ
quarter_of startup m =
    if nat_lt m (first_quarter startup) then None
    else Some ((m - first_quarter startup) / 3 + 1)

-- the first day of a quarter, at most 2099-12-31
abbrev pub quarter_first : ℕ → ℕ → ℕ
quarter_first startup q = end_by (first_day (first_quarter startup + 3 * q - 3))

-- the last day of a quarter, at most 2099-12-31
abbrev pub quarter_last : ℕ → ℕ → ℕ
quarter_last startup q = end_by (last_day (first_quarter startup + 3 * q - 1))
