-- The reports that a table can keep: numbers that fit into their bytes, and days of the calendar.
use Rattle.std.specs.Prelude.{◌≡◌, ℕ, ◌<◌, ◌^◌, List, length, Option, Some, None}
use Rattle.std.specs.List.{AllByRecursion}
use Rattle.ldar_days.specs.Calendar.{IsDay}
use Rattle.fact_kinds.specs.declared.key.Key.{Key}
use Rattle.ldar_law.specs.declared.delay.DelayEntry.{DelayEntry}
use Rattle.ldar_law.specs.declared.delay.DelayLine.{DelayLine}
use Rattle.ldar_law.specs.declared.delay.Stop.{Stop}
use Rattle.ldar_law.specs.declared.delay.Until.{Until}
use Rattle.ldar_law.specs.declared.delay.Until.TheVariants.{Date, Shutdown, WhileIsolated, NoDate}

-- a day of the calendar, or none
abbrev pub IsDayOrNone : Option ℕ → Type 0
IsDayOrNone None = Unit {0}
IsDayOrNone (Some day) = IsDay day

-- the key of a fact
pub record IsKey (key : Key) : Type 0 where
  pub day : IsDay key.day
  pub minute : key.minute < 2 ^ 16
  pub handheld : key.handheld < 2 ^ 16
  pub number : key.number < 2 ^ 32
  pub index : key.index < 2 ^ 16

-- a delay of repair
pub record IsDelay (delay : DelayEntry) : Type 0 where
  pub key : IsKey delay.key
  pub ground : delay.ground < 2 ^ 8
  pub signer : delay.signer < 2 ^ 16
  pub expected : IsDayOrNone delay.expected

-- the due day of a repair
abbrev pub IsUntil : Until → Type 0
IsUntil (Date day) = IsDay day
IsUntil Shutdown = Unit {0}
IsUntil WhileIsolated = Unit {0}
IsUntil NoDate = Unit {0}

-- the line of a delayed repair
pub record IsLine (line : DelayLine) : Type 0 where
  pub component : line.component < 2 ^ 16
  pub detected : IsDay line.detected
  pub delay : IsDelay line.delay
  pub until : IsUntil line.until
  pub closed : IsDayOrNone line.closed

-- a process unit shutdown
pub record IsStop (stop : Stop) : Type 0 where
  pub first : IsDay stop.first
  pub last : IsDay stop.last

-- 36 numbers of four bytes
pub record AreMonths (months : List ℕ) : Type 0 where
  pub places : length months ≡ 36
  pub small : AllByRecursion (λ n. n < 2 ^ 32) months
