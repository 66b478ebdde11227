use Rattle.std.proofs.Common.{◌≡◌, ◌+◌, ◌-◌, length}
use Rattle.register_import.specs.Components as files
use Rattle.csv_rows.specs.Records.{IsReading, records_left}
use Rattle.register_import.proofs.SortLemmas.{sorted_behind}
use Rattle.register_import.proofs.components.rows_of.Given as goal

abbrev pub invariant-loop-turn : goal.invariant-loop-turn
invariant-loop-turn l =
    IsReading l.reader
    × (sorted_behind l.rows.others.items l.rows.difficult.items (files.rows_from (l.turn + 2) (records_left (l.fn.most - l.turn) l.reader))
    ≡ files.in_turn (files.rows_from 2 (records_left l.fn.most l.fn.reader)))
    × (length l.rows.others.items + length l.rows.difficult.items ≡ l.turn)
