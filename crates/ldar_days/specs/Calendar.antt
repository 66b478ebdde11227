-- The calendar by numbers. A day is the number of days since 1970-01-01; a month is year * 12 + month - 1.
use Rattle.std.specs.Prelude.{ℕ, ◌+◌, ◌-◌, ◌*◌, ◌/◌, ◌%◌, ◌≤◌, List, [], ◌∷◌, ◌&&◌, nat_lt, nat_le, if◌then◌else◌, min, pos, slice_index_or}
use Rattle.jiff_core.specs.Calendar.{is_leap_year, days_in_month}

-- the calendar has this day: 2008-01-01 to 2099-12-31
abbrev pub IsDay : ℕ → Type 0
IsDay n = (13_879 ≤ n) × (n ≤ 47_481)

-- the calendar has this month: January 2008 to December 2099
abbrev pub IsMonth : ℕ → Type 0
IsMonth m = (24_096 ≤ m) × (m ≤ 25_199)

-- the number of leap years from year 0 to the year before this one
abbrev pub leaps_before : ℕ → ℕ
leaps_before y = (y + 3) / 4 - (y + 99) / 100 + (y + 399) / 400

-- the day number of 1 January: 365 days a year, and one more for each leap year
abbrev pub year_first : ℕ → ℕ
year_first y = 365 * y + leaps_before y - 719_528

-- the days of a year before each of its months, without 29 February
abbrev pub days_before : List ℕ
days_before = 0 ∷ 31 ∷ 59 ∷ 90 ∷ 120 ∷ 151 ∷ 181 ∷ 212 ∷ 243 ∷ 273 ∷ 304 ∷ 334 ∷ []

-- 1 if 29 February is in the month's year and before the month, and otherwise 0
abbrev pub leap_day : ℕ → ℕ
leap_day m = if is_leap_year (pos (m / 12)) && nat_lt 1 (m % 12) then 1 else 0

-- the first day of a month, for each month from 1970 on, also after the calendar's end
unfoldable pub first_day : ℕ → ℕ
first_day m = year_first (m / 12) + slice_index_or days_before (m % 12) 0 + leap_day m

-- the number of days in a month
unfoldable pub month_length : ℕ → ℕ
month_length m = days_in_month (pos (m / 12)) (m % 12 + 1)

-- the last day of a month
abbrev pub last_day : ℕ → ℕ
last_day m = first_day m + month_length m - 1

-- the day is in the month
abbrev pub IsInMonth : ℕ → ℕ → Type 0
IsInMonth m n = (first_day m ≤ n) × (n ≤ last_day m)

-- 4,800 months have 146,097 days, so a day is in this month or in the next
abbrev pub near : ℕ → ℕ
near n = 23_640 + (n - 14) * 4_800 / 146_097

-- the month of a day
unfoldable pub month_of : ℕ → ℕ
month_of n = if nat_le (first_day (near n + 1)) n then near n + 1 else near n

-- a day's place in its month, from 0
abbrev pub place_of : ℕ → ℕ
place_of n = n - first_day (month_of n)

-- the day, but at most 2099-12-31 (our own rule)
abbrev pub end_by : ℕ → ℕ
end_by n = min 47_481 n

-- the day at a place (from 0) of a month, or the month's last day if the month is shorter
abbrev pub day_at : ℕ → ℕ → ℕ
day_at m place = first_day m + min place (month_length m - 1)

-- the day some months later, at most 2099-12-31 (our own rule)
abbrev pub later_by : ℕ → ℕ → ℕ
later_by months n = end_by (day_at (month_of n + months) (place_of n))

-- the week of a day, from Monday to Sunday (our own rule); week 1 begins on 1970-01-05
abbrev pub week_of : ℕ → ℕ
week_of n = (n + 3) / 7

-- the Monday of a week
abbrev pub week_first : ℕ → ℕ
week_first w = 7 * w - 3

-- the Sunday of a week
abbrev pub week_last : ℕ → ℕ
week_last w = end_by (7 * w + 3)
