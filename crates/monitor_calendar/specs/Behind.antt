-- What a walk over the months keeps: a summary of the events of earlier months.
use Rattle.std.specs.Prelude.{◌≡◌, ℕ, ◌+◌, ◌-◌, ◌<◌, ◌≤◌, Bool, true, false, ◌&&◌, nat_eq, nat_lt, nat_le, if◌then◌else◌, Option, Some, None, IfSome, List}
use Rattle.std.specs.List.{AllByRecursion, list_any}
use Rattle.ldar_days.specs.Calendar.{month_of}
use Rattle.ldar_days.specs.Quarters.{first_quarter}
use Rattle.ldar_law.specs.declared.event.Event.{Event}
use Rattle.ldar_law.specs.Happenings.{is_leak, is_routine_below, is_in_month}
use Rattle.ldar_law.specs.Months.{quarter_start}
use Rattle.monitor_calendar.specs.declared.past_months.PastMonths.{PastMonths}

-- a leak is in the month or a later one
abbrev pub leaks_from : List Event → ℕ → Bool
leaks_from events low = list_any (λ e. is_leak e.what && nat_le low (month_of e.key.day)) events

-- a counting routine reading below the leak definition is in the month or a later one
abbrev pub reads_from : List Event → ℕ → Bool
reads_from events low = list_any (λ e. is_routine_below e.what && nat_le low (month_of e.key.day)) events

-- a counting routine reading below the leak definition is in the month
abbrev pub reads_in : List Event → ℕ → Bool
reads_in events month = list_any (λ e. is_routine_below e.what && is_in_month month e) events

-- the number exists and is at most this one
abbrev pub IsBy : Option ℕ → ℕ → Type 0
IsBy None high = ⊥
IsBy (Some n) high = n ≤ high

-- the summary of events of months up to `last`; after two months in a row are known, it ignores later readings
pub record Tells (past : PastMonths) (last : ℕ) (events : List Event) : Type 0 where
  pub up_to : AllByRecursion (λ e. month_of e.key.day ≤ last) events
  pub leak_by : past.leak ≤ last
  pub below_by : past.below ≤ last
  pub leak : (low : ℕ) → 0 < low → leaks_from events low ≡ nat_le low past.leak
  pub below : (low : ℕ) → past.leak < low → past.pair ≡ None → reads_from events low ≡ nat_le low past.below
  pub since : 0 < past.below → past.leak < past.below
  pub first : (k : ℕ) → past.leak < k → reads_in events k ≡ true → reads_in events (k + 1) ≡ true → IsBy past.pair k
  pub pair : IfSome past.pair (λ k. (past.leak < k) × (reads_in events k ≡ true) × (reads_in events (k + 1) ≡ true))

-- the first of two months in a row that have such a reading, if this month has one too
abbrev pub pair_from : Option ℕ → ℕ → ℕ → Option ℕ
pair_from (Some first) below month = Some first
pair_from None below month = if nat_eq (month - 1) below then Some below else None

-- the first of two months in a row, with this month added to past months
abbrev pub pair_with : PastMonths → ℕ → Option ℕ
pair_with past month = pair_from past.pair past.below month

-- two months in a row make the month quarterly: both are before its quarter
abbrev pub lets_after : Option ℕ → ℕ → ℕ → Bool
lets_after None startup month = false
lets_after (Some first) startup month = nat_le (first_quarter startup) month && nat_lt first (quarter_start startup month - 1)

-- past months make the month quarterly
abbrev pub lets_be_quarterly : PastMonths → ℕ → ℕ → Bool
lets_be_quarterly past startup month = lets_after past.pair startup month
