-- A file of process units, as the crate `toml` reads it.
use Rattle.std.specs.Prelude.{ℕ, ◌+◌, Bool, true, false, ◌&&◌, is_some, List, [], ◌∷◌, codes, Option, Some, None, Result, Ok, Err, if◌then◌else◌}
use Rattle.std.specs.Str.{is_utf8}
use Rattle.toml.specs.Data.{Items, no_items, item, Members, as_array, as_table, get_member}
use Rattle.toml.specs.Parse.{parse_document}
use Rattle.fact_kinds.specs.declared.batch.Batch.{Batch}
use Rattle.register_import.specs.Batches.{batches_said}
use Rattle.csv_rows.specs.Fields.{◌>>=◌}
use Rattle.register_import.specs.Members.{has_only}
use Rattle.register_import.specs.Rows.{Rows, row_then}
use Rattle.register_import.specs.UnitRows.{unit_of}

-- each element is a table
abbrev pub are_tables : Items → Bool
are_tables no_items = true
are_tables (item d items) = is_some (as_table d) && are_tables items

-- there is an element
abbrev pub has_element : Items → Bool
has_element no_items = false
has_element (item d items) = true

-- there is an element, and each is a table
abbrev pub are_some_tables : Items → Bool
are_some_tables items = has_element items && are_tables items

-- the elements, if there are some and each is a table
abbrev pub some_tables : Items → Option Items
some_tables items = if are_some_tables items then Some items else None

-- the array at a key
abbrev pub array_at : List ℕ → Members → Option Items
array_at key members = get_member key members >>= as_array

-- the elements of a document that is exactly one array of tables `unit`
unfoldable pub elements_of : Members → Option Items
elements_of members =
    if has_only (codes "unit" ∷ []) members then (array_at (codes "unit") members >>= some_tables) else None

-- the facts of elements, in the order of the file; the first of them has this number
abbrev pub rows_from : ℕ → Items → Rows
rows_from at no_items = Ok []
rows_from at (item d items) = row_then at (unit_of d) (rows_from (at + 1) items)

-- a text that is not such a document is bad row 0
abbrev pub rows_of_elements : Option Items → Rows
rows_of_elements None = Err 0
rows_of_elements (Some items) = rows_from 1 items

-- the rows of a text
unfoldable pub unit_rows : List ℕ → Rows
unit_rows text =
    if is_utf8 text then rows_of_elements (parse_document text >>= elements_of) else Err 0

-- the batches of a file of process units, or its first bad row
abbrev pub units_import : ℕ → List ℕ → Result (List Batch) ℕ
units_import number text = batches_said number (unit_rows text)
