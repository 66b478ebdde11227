-- What a view asks of a process unit, and what there is none of.
use Rattle.std.specs.Prelude.{◌≡◌, ℕ, ◌≤◌, nat_eq, nat_le, if◌then◌else◌, Option, Some, None, Result, Ok, Err, List, option_and_then}
use Rattle.fact_kinds.specs.Facts.{Entry}
use Rattle.history_laws.specs.DayLaws.{if_started}
use Rattle.ldar_law.specs.declared.request.Request.{Request}
use Rattle.ldar_law.specs.declared.request.Request.TheVariants.{Sync, Due, Tags, Delays, Route, Percent, Report as ReportView}
use Rattle.ldar_law.specs.declared.request.What.{What}
use Rattle.ldar_law.specs.declared.request.What.TheVariants.{Unit as NoUnit, Quarter as NoQuarter, Half as NoHalf, Stops as NoStops}
use Rattle.ldar_law.specs.declared.tally.Tally.{Tally}
use Rattle.ldar_law.specs.declared.unit_entry.UnitEntry.{UnitEntry}
use Rattle.ldar_law.specs.Equipment.{elections_of, unit_entry_of}
use Rattle.ldar_law.specs.Reports.{half_month, has_half_begun, has_quarter_begun}
use Rattle.ldar_law.specs.Skips.{skipped_to}
use Rattle.ldar_law.specs.Units.{components_of, quarter_at, skipped_on, tallies_to}

-- the number of the process unit that a view asks of
abbrev pub view_unit : Request → ℕ
view_unit (Sync batch) = 0
view_unit (Due unit day) = unit
view_unit (Tags unit day) = unit
view_unit (Delays unit day) = unit
view_unit (Route unit day stops) = unit
view_unit (Percent unit quarter day) = unit
view_unit (ReportView unit half day) = unit

-- by these counts of quarters the same quarters of a process unit are skipped as by all that the facts up to the day count
abbrev pub AreTalliesDue : UnitEntry → ℕ → List Entry → List Tally → Type 0
AreTalliesDue entry day facts tallies =
    skipped_to tallies (elections_of entry.unit facts) entry.startup (quarter_at entry.startup day)
    ≡ skipped_on entry.startup day (components_of entry.unit facts) (elections_of entry.unit facts)

-- these are the counts of quarters that a view needs of a process unit, by the facts up to its day
abbrev pub AreTalliesOf : Request → UnitEntry → List Entry → List Tally → Type 0
AreTalliesOf (Due unit day) entry facts tallies = AreTalliesDue entry day facts tallies
AreTalliesOf (Route unit day stops) entry facts tallies = AreTalliesDue entry day facts tallies
AreTalliesOf (Percent unit quarter day) entry facts tallies = tallies ≡ tallies_to entry.startup day (components_of entry.unit facts) quarter
AreTalliesOf _ entry facts tallies = Unit {0}

-- the process unit of a number as the entries of a register have it on a day; one above 255 is none
abbrev pub unit_known : ℕ → ℕ → List Entry → Option UnitEntry
unit_known unit day entries = if nat_le unit 255 then option_and_then (if_started day) (unit_entry_of unit entries) else None

-- what a view asks of a process unit, and there is none of
abbrev pub lacked : Request → UnitEntry → Option What
lacked (Sync batch) entry = None
lacked (Due unit day) entry = None
lacked (Tags unit day) entry = None
lacked (Delays unit day) entry = None
lacked (Route unit day stops) entry = if nat_eq stops 0 then Some NoStops else None
lacked (Percent unit quarter day) entry = if has_quarter_begun entry.startup quarter day then None else Some NoQuarter
lacked (ReportView unit half day) entry = if has_half_begun entry.startup half day then None else Some NoHalf

-- the process unit if nothing is lacked, or what is
abbrev pub unless_lacked : UnitEntry → Option What → Result UnitEntry What
unless_lacked entry None = Ok entry
unless_lacked entry (Some what) = Err what

-- the process unit that a view asks of, if there is all that it asks, or what there is none of
abbrev pub asked : Request → Option UnitEntry → Result UnitEntry What
asked request None = Err NoUnit
asked request (Some entry) = unless_lacked entry (lacked request entry)

-- a half that a view asks is in the calendar
abbrev pub IsInCalendar : Request → UnitEntry → Type 0
IsInCalendar (Sync batch) entry = Unit {0}
IsInCalendar (Due unit day) entry = Unit {0}
IsInCalendar (Tags unit day) entry = Unit {0}
IsInCalendar (Delays unit day) entry = Unit {0}
IsInCalendar (Route unit day stops) entry = Unit {0}
IsInCalendar (Percent unit quarter day) entry = Unit {0}
IsInCalendar (ReportView unit half day) entry = half_month entry.startup half ≤ 25_199

-- there is all that a view asks of this process unit
pub record IsWhole (request : Request) (entry : UnitEntry) : Type 0 where
  pub nothing_lacked : lacked request entry ≡ None
  pub in_calendar : IsInCalendar request entry
