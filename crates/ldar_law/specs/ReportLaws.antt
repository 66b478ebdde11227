-- Laws about the numbers of reports.
use Rattle.std.specs.Prelude.{◌≡◌, ℕ, ◌<◌, ◌≤◌, ◌↔◌, Some, List, [], length, replicate, slice_index_or, Contains}
use Rattle.std.specs.List.{AllByRecursion}
use Rattle.ldar_days.specs.Calendar.{IsDay}
use Rattle.ldar_law.specs.declared.delay.Stop.{Stop}
use Rattle.ldar_law.specs.declared.delay.Until.{Until}
use Rattle.ldar_law.specs.declared.delay.Until.TheVariants.{Date}
use Rattle.ldar_law.specs.declared.report.Amended.{Amended}
use Rattle.ldar_law.specs.declared.report.Cells.{Cells}
use Rattle.ldar_law.specs.declared.sheet.Sheet.{Sheet}
use Rattle.ldar_law.specs.Reports.{month_cells, cells_of, amended_at, amended}

-- a report has 36 numbers, each at most the number of components
abbrev pub CellsAreBounded : Type 0
CellsAreBounded =
    (startup half day : ℕ) (sheets : List Sheet) (stops : List Stop)
    → (length (cells_of startup half day sheets stops).months ≡ 36)
    × AllByRecursion (λ number. number ≤ length sheets) (cells_of startup half day sheets stops).months

-- the due day is a day of the calendar if it is a date
abbrev pub IsDueInCalendar : Until → Type 0
IsDueInCalendar (Date due) = IsDay due
IsDueInCalendar _ = Unit {0}

-- the leaks and due days of a sheet are in the calendar
abbrev pub IsInCalendar : Sheet → Type 0
IsInCalendar sheet =
    AllByRecursion (λ leak. leak ≤ 25_199) sheet.leaks × AllByRecursion (λ tag. IsDueInCalendar tag.repair_due) sheet.tags

-- the numbers of a month after December 2099 are zero
abbrev pub MonthsPastAreZero : Type 0
MonthsPastAreZero =
    (day month : ℕ) (sheets : List Sheet) → AllByRecursion IsInCalendar sheets → 25_199 < month
    → month_cells day sheets month ≡ replicate 6 0

-- the amended numbers are those of the 36 places at which two reports differ
abbrev pub AmendedWhereDifferent : Type 0
AmendedWhereDifferent =
    (old new : Cells) (change : Amended)
    → Contains (amended old new) change ↔ ((place : ℕ) × (place < 36) × (amended_at old.months new.months place ≡ Some change))

-- nothing is amended exactly if all 36 numbers are equal
abbrev pub NothingAmended : Type 0
NothingAmended =
    (old new : Cells)
    → (amended old new ≡ []) ↔ ((place : ℕ) → place < 36 → slice_index_or old.months place 0 ≡ slice_index_or new.months place 0)
