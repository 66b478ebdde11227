-- The elements of a file of process units.
use Rattle.std.specs.Prelude.{ℕ, Bool, false, List, [], ◌∷◌, codes, Option, Some, None, if◌then◌else◌}
use Rattle.toml.specs.Data.{Data, Members, as_table, get}
use Rattle.fact_kinds.specs.declared.body.FactBody.TheVariants.{Unit as UnitFact}
use Rattle.fact_kinds.specs.Stated.{Stated}
use Rattle.csv_rows.specs.Fields.{◌>>=◌}
use Rattle.register_import.specs.Members.{has_only, unit_number, name, day, flag}

-- the keys of an element; all of them must be present
abbrev pub unit_keys : List (List ℕ)
unit_keys = codes "number" ∷ codes "name" ∷ codes "startup" ∷ codes "older" ∷ []

-- a table with only these keys
abbrev pub has_unit_keys : Option Members → Bool
has_unit_keys None = false
has_unit_keys (Some members) = has_only unit_keys members

-- the fact of a table with exactly these keys, or None if the element is bad
unfoldable pub unit_of : Data → Option Stated
unit_of d =
    if has_unit_keys (as_table d) then (do
      unit ← unit_number (get (codes "number") d)
      name ← name (get (codes "name") d)
      day ← day (get (codes "startup") d)
      older ← flag (get (codes "older") d)
      Some (record { day = day; minute = 0; body = UnitFact unit older name }))
    else None
