-- A file of components.
use Rattle.std.specs.Prelude.{ℕ, ◌+◌, not, List, [], ◌∷◌, ◌++◌, filter, Result, Ok, Err, if◌then◌else◌}
use Rattle.fact_kinds.specs.declared.batch.Batch.{Batch}
use Rattle.fact_kinds.specs.Stated.{Stated}
use Rattle.register_import.specs.Batches.{batches_said}
use Rattle.register_import.specs.ComponentRows.{component_of, is_difficult, is_header}
use Rattle.csv_rows.specs.Records.{records_of}
use Rattle.register_import.specs.Rows.{Rows, row_then}

-- the facts of rows, in the order of the file; the first of them has this number
abbrev pub rows_from : ℕ → List (List (List ℕ)) → Rows
rows_from at [] = Ok []
rows_from at (row ∷ rows) = row_then at (component_of row) (rows_from (at + 1) rows)

-- the rows after the header; there must be at least one
abbrev pub some_rows : List (List (List ℕ)) → Rows
some_rows [] = Err 2
some_rows (row ∷ rows) = rows_from 2 (row ∷ rows)

-- the first record must be the header
abbrev pub rows_of_records : List (List (List ℕ)) → Rows
rows_of_records [] = Err 1
rows_of_records (first ∷ rows) = if is_header first then some_rows rows else Err 1

-- the rows of a text
abbrev pub component_rows : List ℕ → Rows
component_rows text = rows_of_records (records_of text)

-- the components that are not difficult to monitor, then those that are, each in the order of the file
abbrev pub difficult_last : List Stated → List Stated
difficult_last facts = filter (λ fact. not (is_difficult fact)) facts ++ filter is_difficult facts

-- rows with the difficult-to-monitor components last
abbrev pub in_turn : Rows → Rows
in_turn (Ok facts) = Ok (difficult_last facts)
in_turn (Err at) = Err at

-- the batches of a file of components, or its first bad row
abbrev pub components_import : ℕ → List ℕ → Result (List Batch) ℕ
components_import number text = batches_said number (in_turn (component_rows text))
