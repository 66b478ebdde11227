-- The row of a report, the report of a row, and the reports that the table can keep.
use Rattle.std.specs.Prelude.{◌≡◌, ◌≤◌, ◌⊎◌, ℕ, List, map, Option, Some, None, Result, Ok, Err}
use Rattle.std.specs.List.{AllByRecursion}
use Rattle.ldar_days.specs.Calendar.{IsDay}
use Rattle.ldar_law.specs.declared.report.Cells.{Cells}
use Rattle.ldar_law.specs.declared.report.Filed.{Filed}
use Rattle.report_filing.specs.declared.filing.FilingFault.{FilingFault}
use Rattle.report_filing.specs.declared.filing.FilingFault.TheVariants.{Memory}
use Rattle.report_filing.specs.Revisions.{AreNumbered}
use Rattle.report_table.specs.declared.filed_row.FiledRow.{FiledRow}
use Rattle.sqlite.specs.declared.error.Error.{Error}
use Rattle.report_table.specs.CellBytes.{months_bytes, delays_bytes, stops_bytes}
use Rattle.report_table.specs.CellsIn.{months_in, delays_in, stops_in}
use Rattle.report_table.specs.Kept.{KeptRow}
use Rattle.report_table.specs.Ranges.{AreMonths, IsLine, IsStop}

-- the row of a report
abbrev pub spelled : Filed → KeptRow
spelled filed = record {
  unit = filed.unit;
  half = filed.half;
  revision = filed.revision;
  day = filed.day;
  months = months_bytes filed.cells.months;
  delays = delays_bytes filed.cells.delays;
  stops = stops_bytes filed.cells.stops;
}

-- the report of a row
abbrev pub filed_in : KeptRow → Filed
filed_in row = record {
  unit = row.unit;
  half = row.half;
  revision = row.revision;
  day = row.day;
  cells = record { months = months_in row.months; delays = delays_in row.delays; stops = stops_in row.stops };
}

-- the row's numbers are the report's, and its bytes spell the report's cells
pub record IsRowOf (filed : Filed) (row : FiledRow) : Type 0 where
  pub unit : row.unit ≡ filed.unit
  pub half : row.half ≡ filed.half
  pub revision : row.revision ≡ filed.revision
  pub day : row.day ≡ filed.day
  pub months : row.months.items ≡ months_bytes filed.cells.months
  pub delays : row.delays.items ≡ delays_bytes filed.cells.delays
  pub stops : row.stops.items ≡ stops_bytes filed.cells.stops

-- cells that bytes can spell
pub record AreCells (cells : Cells) : Type 0 where
  pub months : AreMonths cells.months
  pub delays : AllByRecursion IsLine cells.delays
  pub stops : AllByRecursion IsStop cells.stops

-- a report that the table can keep: a revision with its day and cells
pub record CanBeKept (filed : Filed) : Type 0 where
  pub numbered : 1 ≤ filed.revision
  pub day : IsDay filed.day
  pub cells : AreCells filed.cells

-- the given value is read back, unless it ran out of memory
abbrev pub IsReadBack : {X : Type 0} → Result X FilingFault → X → Type 0
IsReadBack result given = (result ≡ Ok given) ⊎ (result ≡ Err Memory)

-- ---- the reports in a table

-- the row of a report that the table can keep
abbrev pub IsSpelled : KeptRow → Type 0
IsSpelled row = CanBeKept (filed_in row) × (row ≡ spelled (filed_in row))

-- rows of reports whose revisions count from 1 in each half
pub record AreFiled (rows : List KeptRow) : Type 0 where
  pub spelled : AllByRecursion IsSpelled rows
  pub numbered : AreNumbered (map filed_in rows)

-- the reports of rows
abbrev pub filed_of : List KeptRow → List Filed
filed_of rows = map filed_in rows

-- the reports in a filing, if it exposes them, and its count of errors
pub record OnFile : Type 0 where
  pub reports : Option (List Filed)
  pub faults : ℕ

-- the report that was found is that of the row that was found
abbrev pub IsReadFrom : Result (Option FiledRow) Error → Option Filed → Type 0
IsReadFrom (Ok None) found = found ≡ None
IsReadFrom (Ok (Some row)) found = (given : Filed) → CanBeKept given → IsRowOf given row → found ≡ Some given
IsReadFrom (Err error) found = ⊥
