-- Rows kept in a map by their keys.
use Rattle.std.specs.Prelude.{◌≡◌, ℕ, ⊤, List, Option, Some, None, Result, Ok, map}
use Rattle.list_words.specs.Order.{in_order}
use Rattle.pump_seals.specs.declared.row.SealRow.{SealRow}
use Rattle.dual_seals.specs.declared.error.SealError.{SealError}
use Rattle.dual_seals.specs.declared.error.SealError.TheVariants.{Row, Memory}
use Rattle.dual_seals.specs.declared.row_key.RowKey.{RowKey}
use Rattle.dual_seals.specs.RowOrder.{key_of, comes_first}

-- a row with its key
abbrev pub keyed : SealRow → RowKey × SealRow
keyed row = (key_of row, row)

-- the map has these rows
abbrev pub Has : List (RowKey × SealRow) → List SealRow → Type 0
Has entries rows = entries ≡ map keyed (in_order comes_first rows)

-- the map has the rows of some records
abbrev pub HasAll : List (RowKey × SealRow) → Result (List SealRow) ℕ → Type 0
HasAll entries said = (rows : List SealRow) × (said ≡ Ok rows) × Has entries rows

-- the map has the rows with one more
abbrev pub HasMore : List (RowKey × SealRow) → Option (List SealRow) → Type 0
HasMore entries said = (rows : List SealRow) × (said ≡ Some rows) × Has entries rows

-- the error is a bad record with this number, unless it is out of memory
abbrev pub IsBadAt : ℕ → Option (List SealRow) → SealError → Type 0
IsBadAt at said (Row n) = (n ≡ at) × (said ≡ None)
IsBadAt at said Memory = ⊤
