-- The records of a file of components.
use Rattle.std.specs.Prelude.{ℕ, Bool, true, false, ◌==◌, ◌&&◌, List, codes, length, Option, Some, None, if◌then◌else◌}
use Rattle.csv.specs.Records.{field_at}
use Rattle.fact_kinds.specs.declared.class.Designation.{Designation}
use Rattle.fact_kinds.specs.declared.class.Designation.TheVariants.{Plain, Nde, Unsafe, Difficult}
use Rattle.fact_kinds.specs.declared.body.FactBody.{FactBody}
use Rattle.fact_kinds.specs.declared.body.FactBody.TheVariants.{Component as ComponentFact}
use Rattle.fact_kinds.specs.Stated.{Stated}
use Rattle.csv_rows.specs.Fields.{◌>>=◌, number, day, holds}
use Rattle.register_import.specs.Fields.{flag, kind, class}

-- the first five fields are the names of their columns
abbrev pub begins_header : List (List ℕ) → Bool
begins_header fields =
    holds (field_at fields 0) (codes "component") && holds (field_at fields 1) (codes "unit") && holds (field_at fields 2) (codes "kind")
    && holds (field_at fields 3) (codes "service") && holds (field_at fields 4) (codes "designation")

-- the last five fields are the names of their columns
abbrev pub ends_header : List (List ℕ) → Bool
ends_header fields =
    holds (field_at fields 5) (codes "plan") && holds (field_at fields 6) (codes "month") && holds (field_at fields 7) (codes "monomer")
    && holds (field_at fields 8) (codes "replaces") && holds (field_at fields 9) (codes "begin")

-- the ten fields of the header, which names the columns
abbrev pub is_header : List (List ℕ) → Bool
is_header fields = length fields == 10 && begins_header fields && ends_header fields

-- the fact of ten fields, or None if the record is bad
unfoldable pub component_of : List (List ℕ) → Option Stated
component_of fields =
    if length fields == 10 then (do
      component ← number 1 60_000 (field_at fields 0)
      unit ← number 1 64 (field_at fields 1)
      kind ← kind (field_at fields 2)
      class ← class (field_at fields 3) (field_at fields 4) (field_at fields 5) (field_at fields 6)
      monomer ← flag (field_at fields 7)
      replaces ← flag (field_at fields 8)
      day ← day (field_at fields 9)
      Some (record { day = day; minute = 0; body = ComponentFact component unit kind monomer replaces class }))
    else None

-- the designation is difficult to monitor
abbrev pub is_so_designated : Designation → Bool
is_so_designated Plain = false
is_so_designated Nde = false
is_so_designated Unsafe = false
is_so_designated Difficult = true

-- the fact's body enters a difficult-to-monitor component
abbrev pub enters_difficult : FactBody → Bool
enters_difficult (ComponentFact _ _ _ _ _ class) = is_so_designated class.designation
enters_difficult _ = false

-- the fact enters a difficult-to-monitor component
abbrev pub is_difficult : Stated → Bool
is_difficult fact = enters_difficult fact.body
