-- The months whose duties a list can contain.
use Rattle.std.specs.Prelude.{◌≡◌, ℕ, ◌+◌, ◌≤◌, filter_map}
use Rattle.list_words.specs.Ranges.{until}
use Rattle.ldar_days.specs.Calendar.{month_of}
use Rattle.monitor_calendar.specs.Causes.{monthly, quarterly, months_after}
use Rattle.monitor_calendar.specs.declared.asked.Asked.{Asked}
use Rattle.monitor_calendar.specs.declared.listed_months.ListedMonths.{ListedMonths}

-- the list can contain duties of this month and later ones, but of no earlier month after the beginning
pub record IsFirstListed (asked : Asked) (low : ℕ) : Type 0 where
  pub in_range : (24_096 ≤ low) × (low ≤ 25_200)
  pub monthly : filter_map (monthly asked) (until low (month_of asked.day + 1)) ≡ filter_map (monthly asked) (months_after asked)
  pub quarterly : filter_map (quarterly asked) (until low (month_of asked.day + 1)) ≡ filter_map (quarterly asked) (months_after asked)

-- these are the months whose duties the list can contain
pub record Covers (asked : Asked) (months : ListedMonths) : Type 0 where
  pub first : IsFirstListed asked months.low
  pub end : months.end ≡ month_of asked.day + 1
  pub within : months.end ≤ 25_200
