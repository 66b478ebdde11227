-- The order of the rows of a seal file, and when two of them are duplicates.
use Rattle.std.specs.Prelude.{ℕ, Bool, if◌then◌else◌}
use Rattle.std.specs.Ordering.{is_eq, is_lt}
use Rattle.pump_seals.specs.declared.row.SealRow.{SealRow}
use Rattle.pump_seals.specs.declared.row.SealWhat.{SealWhat}
use Rattle.pump_seals.specs.Signs.{is_seal}
use Rattle.dual_seals.specs.declared.row_key.RowKey.{RowKey}
use Rattle.dual_seals.specs.RowKeys.{row_key_cmp}

-- 0 for a row about the seal, 1 for a row about the sensor
abbrev pub rank_of : SealWhat → ℕ
rank_of what = if is_seal what then 0 else 1

-- the key of a row
abbrev pub key_of : SealRow → RowKey
key_of row = record { component = row.component; day = row.day; minute = row.minute; rank = rank_of row.what }

-- the first row is before the second: by component, day and minute, and then seals before sensors
unfoldable pub comes_first : SealRow → SealRow → Bool
comes_first a b = is_lt (row_key_cmp (key_of a) (key_of b))

-- both rows are about the seal or both about the sensor, with the same component, day and minute
unfoldable pub is_duplicate : SealRow → SealRow → Bool
is_duplicate a b = is_eq (row_key_cmp (key_of a) (key_of b))
