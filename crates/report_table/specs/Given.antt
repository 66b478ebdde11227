-- The row that is added to the table, and the row that is read from it.
use Rattle.std.specs.Prelude.{◌≡◌, List, [], Option, Some, None}
use Rattle.sqlite_value.specs.declared.value.Value.TheVariants.{Blob}
use Rattle.sqlite_value.specs.Order.{Row, column}
use Rattle.report_table.specs.declared.filed_row.FiledRow.{FiledRow}
use Rattle.report_table.specs.Kept.{KeptRow}
use Rattle.report_table.specs.Statements.{number, IsAmong, IsLast}

-- the row as the table keeps it
abbrev pub kept_as : FiledRow → KeptRow
kept_as row = record { unit = row.unit; half = row.half; revision = row.revision; day = row.day; months = row.months.items; delays = row.delays.items; stops = row.stops.items }

-- the row that was found, as it is read
pub record ReadsAs (kept : Row) (found : FiledRow) : Type 0 where
  pub revision : column kept 0 ≡ number found.revision
  pub day : column kept 1 ≡ number found.day
  pub months : column kept 2 ≡ Blob found.months.items
  pub delays : column kept 3 ≡ Blob found.delays.items
  pub stops : column kept 4 ≡ Blob found.stops.items

-- the row that was found is the last of these; if none was found, there are no rows
abbrev pub IsFoundLast : List KeptRow → Option FiledRow → Type 0
IsFoundLast rows None = rows ≡ []
IsFoundLast rows (Some row) = IsLast rows (kept_as row)

-- the row that was found is one of these; if none was found, there are no rows
abbrev pub IsFoundOne : List KeptRow → Option FiledRow → Type 0
IsFoundOne rows None = rows ≡ []
IsFoundOne rows (Some row) = IsAmong (kept_as row) rows
