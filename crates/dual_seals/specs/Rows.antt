-- A seal file: its rows in order, or its first bad record.
use Rattle.std.specs.Prelude.{◌≡◌, ℕ, ◌+◌, ⊤, Bool, ◌==◌, ◌&&◌, List, [], ◌∷◌, codes, length, Option, Some, None, Result, Ok, Err, if◌then◌else◌}
use Rattle.std.specs.List.{list_any}
use Rattle.std.specs.Option.{option_map_or}
use Rattle.csv.specs.Records.{field_at}
use Rattle.csv_rows.specs.Fields.{◌>>=◌, number, day, holds}
use Rattle.csv_rows.specs.Records.{records_of}
use Rattle.list_words.specs.Order.{in_order}
use Rattle.pump_seals.specs.declared.row.SealRow.{SealRow}
use Rattle.pump_seals.specs.declared.row.SealWhat.{SealWhat}
use Rattle.pump_seals.specs.declared.row.SealWhat.TheVariants.{On, Off, Present, Gone}
use Rattle.dual_seals.specs.declared.error.SealError.{SealError}
use Rattle.dual_seals.specs.declared.error.SealError.TheVariants.{Row, Memory}
use Rattle.dual_seals.specs.RowOrder.{comes_first, is_duplicate}

-- ---- records

-- the five fields of the header, which names the columns
abbrev pub is_header : List (List ℕ) → Bool
is_header fields =
    length fields == 5 && (holds (field_at fields 0) (codes "what") && holds (field_at fields 1) (codes "component")
    && holds (field_at fields 2) (codes "day") && holds (field_at fields 3) (codes "minute") && holds (field_at fields 4) (codes "value"))

-- a seal is on or off; a sensor's failure is present or gone; None for other words
unfoldable pub what_of : Option (List ℕ) → Option (List ℕ) → Option SealWhat
what_of what value =
    if holds what (codes "seal")
    then (if holds value (codes "on") then Some On else (if holds value (codes "off") then Some Off else None))
    else (if holds what (codes "sensor")
    then (if holds value (codes "present") then Some Present else (if holds value (codes "gone") then Some Gone else None))
    else None)

-- the row of five fields with its number, or None if the record is bad
unfoldable pub row_of : ℕ → List (List ℕ) → Option SealRow
row_of at fields =
    if length fields == 5 then (do
      what ← what_of (field_at fields 0) (field_at fields 4)
      component ← number 1 60_000 (field_at fields 1)
      day ← day (field_at fields 2)
      minute ← number 0 1_439 (field_at fields 3)
      Some (record { at = at; what = what; component = component; day = day; minute = minute }))
    else None

-- ---- files

-- the rows so far with one more, latest first; None if the record is bad or the row is a duplicate of an earlier one
abbrev pub with_row : List SealRow → Option SealRow → Option (List SealRow)
with_row earlier None = None
with_row earlier (Some row) = if list_any (is_duplicate row) earlier then None else Some (row ∷ earlier)

-- the rows of records after earlier rows, latest first, or the number of the first bad record; the first of the records has this number
abbrev pub rows_from : ℕ → List SealRow → List (List (List ℕ)) → Result (List SealRow) ℕ
rows_from at earlier [] = Ok earlier
rows_from at earlier (fields ∷ records) =
    option_map_or (λ rows. rows_from (at + 1) rows records) (with_row earlier (row_of at fields)) (Err at)

-- the rows of a file, whose first record must be the header; other records may be missing
abbrev pub rows_of_records : List (List (List ℕ)) → Result (List SealRow) ℕ
rows_of_records [] = Err 1
rows_of_records (first ∷ records) = if is_header first then rows_from 2 [] records else Err 1

-- the rows, in order
abbrev pub in_turn : Result (List SealRow) ℕ → Result (List SealRow) ℕ
in_turn (Ok rows) = Ok (in_order comes_first rows)
in_turn (Err at) = Err at

-- the rows of a text in order, or the number of its first bad record
unfoldable pub seal_rows : List ℕ → Result (List SealRow) ℕ
seal_rows text = in_turn (rows_of_records (records_of text))

-- the error is the first bad record, unless it is out of memory
abbrev pub TellsRow : Result (List SealRow) ℕ → SealError → Type 0
TellsRow said (Row at) = said ≡ Err at
TellsRow said Memory = ⊤
