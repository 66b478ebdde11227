-- The last two months in a row that are both clean, searched from the last event backward.
use Rattle.std.specs.Prelude.{◌≡◌, ℕ, ◌+◌, ◌<◌, ◌≤◌, Bool, true, false, not, ◌&&◌, ◌||◌, nat_eq, nat_le, if◌then◌else◌, List, length, take, drop}
use Rattle.std.specs.List.{AllByRecursion, list_any}
use Rattle.ldar_days.specs.Calendar.{month_of}
use Rattle.fact_kinds.specs.declared.class.Kind.{Kind}
use Rattle.ldar_law.specs.declared.event.Event.{Event}
use Rattle.ldar_law.specs.Happenings.{is_leak, is_routine_below, is_in_month}
use Rattle.ldar_law.specs.Months.{has_leak_in, is_clean, is_clean_twice, is_clean_twice_from}
use Rattle.ldar_law.specs.Spans.{is_valve}
use Rattle.leak_tags.specs.declared.clean_months.CleanMonths.{CleanMonths}

-- the month is clean, by the events so far
abbrev pub is_month_clean : CleanMonths → Bool
is_month_clean months = months.read && not months.leak

-- the month and the next one are clean
abbrev pub is_pair : CleanMonths → Bool
is_pair months = is_month_clean months && months.followed

-- the months of a single event
abbrev pub clean_of : Event → CleanMonths
clean_of e = record { month = month_of e.key.day; read = is_routine_below e.what; leak = is_leak e.what; followed = false }

-- the months with the event before them
abbrev pub clean_with : CleanMonths → Event → CleanMonths
clean_with months e =
    if nat_eq months.month (month_of e.key.day)
    then record {
      month = months.month;
      read = is_routine_below e.what || months.read;
      leak = is_leak e.what || months.leak;
      followed = months.followed;
    }
    else record {
      month = month_of e.key.day;
      read = is_routine_below e.what;
      leak = is_leak e.what;
      followed = is_month_clean months && nat_eq (month_of e.key.day + 1) months.month;
    }

-- the summary of the events from a place on: their first month, and that no later two months in a row are clean
pub record TellsLast (months : CleanMonths) (events : List Event) (place : ℕ) : Type 0 where
  pub within : place ≤ length events
  pub front : AllByRecursion (λ e. month_of e.key.day ≤ months.month) (take place events)
  pub behind : AllByRecursion (λ e. months.month ≤ month_of e.key.day) (drop place events)
  pub read : list_any (λ e. is_routine_below e.what && is_in_month months.month e) (drop place events) ≡ months.read
  pub leak : has_leak_in (drop place events) months.month months.month ≡ months.leak
  pub followed : is_clean events (months.month + 1) ≡ months.followed
  pub last : (k : ℕ) → months.month < k → is_clean_twice events k ≡ false

-- the first of the last two clean months in a row, or 0 if there are none
abbrev pub IsLastPair : ℕ → List Event → Type 0
IsLastPair pair events = (first : ℕ) → 0 < first → is_clean_twice_from events first ≡ nat_le first pair

-- for a valve, the first of the last two clean months in a row; any number for another component
abbrev pub IsPairFor : Kind → ℕ → List Event → Type 0
IsPairFor kind pair events = is_valve kind ≡ true → IsLastPair pair events
