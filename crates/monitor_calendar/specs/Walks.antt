-- A walk over events in key order, month by month.
use Rattle.std.specs.Prelude.{◌≡◌, ℕ, ◌-◌, ◌<◌, ◌≤◌, true, false, nat_le, List, length, take, drop, filter, slice_index_or}
use Rattle.std.specs.List.{AllByRecursion}
use Rattle.ldar_days.specs.Calendar.{first_day, month_of}
use Rattle.ldar_law.specs.declared.event.Event.{Event}
use Rattle.ldar_law.specs.Happenings.{is_leak}
use Rattle.ldar_law.specs.Months.{is_quarterly}
use Rattle.monitor_calendar.specs.Behind.{Tells}
use Rattle.monitor_calendar.specs.declared.past_months.PastMonths.{PastMonths}
use Rattle.monitor_calendar.specs.declared.walked_months.WalkedMonth.{WalkedMonth}

-- the events before a place are of months before `month`, with this summary
pub record IsOn (past : PastMonths) (events : List Event) (place month : ℕ) : Type 0 where
  pub within : place ≤ length events
  pub last : ℕ
  pub before : last ≤ month
  pub front : AllByRecursion (λ e. month_of e.key.day < month) (take place events)
  pub ahead : AllByRecursion (λ e. last ≤ month_of e.key.day) (drop place events)
  pub tells : Tells past last (take place events)

-- the events from the place on are not of earlier months
pub record IsAt (past : PastMonths) (events : List Event) (place month : ℕ) : Type 0 where
  pub on : IsOn past events place month
  pub rest : AllByRecursion (λ e. month ≤ month_of e.key.day) (drop place events)

-- the place is after the last leak of the first `count` events, or 0 if none of them is a leak
pub record IsBehindLeak (events : List Event) (count place : ℕ) : Type 0 where
  pub within : place ≤ count
  pub leak : (e : Event) → 0 < place → is_leak (slice_index_or events (place - 1) e).what ≡ true
  pub none : (k : ℕ) (e : Event) → place ≤ k → k < count → is_leak (slice_index_or events k e).what ≡ false

-- the events from the place on are those from a day on
pub record IsBegun (events : List Event) (first : ℕ) (walked : WalkedMonth) : Type 0 where
  pub within : walked.place ≤ length events
  pub rest : drop walked.place events ≡ filter (λ e. nat_le first e.key.day) events

-- the events from the place on are those from the first day of the month on, and the flag is whether the month is quarterly
pub record IsWalked (startup : ℕ) (events : List Event) (month : ℕ) (walked : WalkedMonth) : Type 0 where
  pub begun : IsBegun events (first_day month) walked
  pub quarterly : walked.is_quarterly ≡ is_quarterly startup events month
