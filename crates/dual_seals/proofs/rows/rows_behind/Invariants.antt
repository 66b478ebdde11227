use Rattle.std.proofs.Common.{◌≡◌, ◌+◌, ◌-◌, List, []}
use Rattle.csv_rows.specs.Records.{IsReading, records_left}
use Rattle.pump_seals.specs.declared.row.SealRow.{SealRow}
use Rattle.dual_seals.specs.Keyed.{Has}
use Rattle.dual_seals.specs.Rows.{rows_from}
use Rattle.dual_seals.proofs.rows.rows_behind.Given as goal

abbrev pub invariant-loop-turn : goal.invariant-loop-turn
invariant-loop-turn l =
    IsReading l.reader
    × (earlier : List SealRow)
    × (Has l.rows.entries earlier
    × (rows_from (l.turn + 2) earlier (records_left (l.fn.most - l.turn) l.reader) ≡ rows_from 2 [] (records_left l.fn.most l.fn.reader)))
