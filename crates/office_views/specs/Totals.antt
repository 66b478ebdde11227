-- How many lines the lists of a process unit have.
use Rattle.std.specs.Prelude.{ℕ, Option, List, length, option_map}
use Rattle.std.specs.List.{count_by}
use Rattle.fact_kinds.specs.Facts.{Entry}
use Rattle.ldar_law.specs.declared.unit_entry.UnitEntry.{UnitEntry}
use Rattle.ldar_law.specs.Equipment.{unit_entry_of}
use Rattle.ldar_law.specs.Tags.{is_open}
use Rattle.ldar_law.specs.Units.{tags_of_unit, duties_of_unit}
use Rattle.office_views.specs.declared.totals.Totals.{Totals}

-- the lines of a unit's tags, those of tags that are not closed, and the lines of what is due
abbrev pub totals_of_unit : UnitEntry → ℕ → List Entry → Totals
totals_of_unit entry day facts = record {
  tags = length (tags_of_unit entry day facts);
  open_tags = count_by is_open (tags_of_unit entry day facts);
  duties = length (duties_of_unit entry day facts);
}

-- the totals of a unit by the facts up to a view day, if it was entered by then
abbrev pub totals_asked : ℕ → ℕ → List Entry → Option Totals
totals_asked unit day facts = option_map (λ entry. totals_of_unit entry day facts) (unit_entry_of unit facts)
