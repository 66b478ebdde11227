-- Clean months, and the months in which a valve may be monitored once a quarter (40 CFR 60.482-7a(c)).
use Rattle.std.specs.Prelude.{ℕ, ◌+◌, ◌-◌, ◌*◌, ◌/◌, ◌%◌, Bool, not, ◌&&◌, nat_lt, nat_le, List}
use Rattle.std.specs.List.{list_any}
use Rattle.ldar_days.specs.Calendar.{month_of}
use Rattle.ldar_days.specs.Quarters.{first_quarter}
use Rattle.ldar_law.specs.declared.event.Event.{Event}
use Rattle.ldar_law.specs.Happenings.{is_leak, is_routine_below, is_in_month}

-- some leak is in the months `low` to `high`
unfoldable pub has_leak_in : List Event → ℕ → ℕ → Bool
has_leak_in events low high =
    list_any (λ e. is_leak e.what && nat_le low (month_of e.key.day) && nat_le (month_of e.key.day) high) events

-- 40 CFR 60.482-7a(c)(1)(i): a counting routine reading below the leak definition is in the month, and no leak is
unfoldable pub is_clean : List Event → ℕ → Bool
is_clean events month = list_any (λ e. is_routine_below e.what && is_in_month month e) events && not (has_leak_in events month month)

-- the month and the next are clean
abbrev pub is_clean_twice : List Event → ℕ → Bool
is_clean_twice events month = is_clean events month && is_clean events (month + 1)

-- some two months in a row are clean, the first of them at or after this one. A clean month has an event, so the months of events are
-- enough.
unfoldable pub is_clean_twice_from : List Event → ℕ → Bool
is_clean_twice_from events first =
    list_any (λ e. nat_le first (month_of e.key.day) && is_clean_twice events (month_of e.key.day)) events

-- the first month of the quarter that contains the month
abbrev pub quarter_start : ℕ → ℕ → ℕ
quarter_start startup month = first_quarter startup + (month - first_quarter startup) / 3 * 3

-- the month's number in its quarter, from 1 to 3
abbrev pub month_in_quarter : ℕ → ℕ → ℕ
month_in_quarter startup month = (month - first_quarter startup) % 3 + 1

-- two months in a row are clean, both before the quarter, and no leak is between the first of them and the month itself
abbrev pub begins_quarterly : ℕ → List Event → ℕ → ℕ → Bool
begins_quarterly startup events month k =
    nat_lt (k + 1) (quarter_start startup month) && is_clean_twice events k && not (has_leak_in events k (month - 1))

-- 40 CFR 60.482-7a(c)(1): the valve may be monitored once a quarter in the month: two clean months are before its quarter, and no leak
-- since. The office always uses this option (our own rule).
unfoldable pub is_quarterly : ℕ → List Event → ℕ → Bool
is_quarterly startup events month =
    nat_le (first_quarter startup) month && list_any (λ e. begins_quarterly startup events month (month_of e.key.day)) events
