-- The seal view does not depend on the order of the records in a file, nor on the order in which batches arrive. This holds only for files
-- without a bad record, since the number of a bad record depends on the order of the records.
use Rattle.std.specs.Prelude.{◌≡◌, ℕ, IsTrue, IsPermutation, List, map, Option, option_map, Ok}
use Rattle.csv_rows.specs.Records.{records_of}
use Rattle.list_words.specs.Order.{in_order}
use Rattle.fact_kinds.specs.declared.batch.Batch.{Batch}
use Rattle.fact_kinds.specs.Facts.{Entry, facts_to}
use Rattle.fact_kinds.specs.Identity.{identities_differ}
use Rattle.ldar_law.specs.declared.equipment.Equipment.{Equipment}
use Rattle.ldar_law.specs.declared.event.Event.{Event}
use Rattle.ldar_law.specs.Equipment.{classes_of, equipment_of}
use Rattle.ldar_law.specs.Events.{events_in}
use Rattle.ldar_law.specs.Force.{limit_on}
use Rattle.pump_seals.specs.declared.row.SealRow.{SealRow}
use Rattle.pump_seals.specs.declared.seals.SealDuty.{SealDuty}
use Rattle.pump_seals.specs.declared.seals.SealTag.{SealTag}
use Rattle.pump_seals.specs.Seals.{duties_by_rows, tags_by_rows}
use Rattle.dual_seals.specs.RowOrder.{comes_first}
use Rattle.dual_seals.specs.Rows.{rows_of_records}

-- a row without the number of its record
abbrev pub unnumbered : SealRow → SealRow
unnumbered row = record { at = 0; what = row.what; component = row.component; day = row.day; minute = row.minute }

-- the events of a component by facts in key order
abbrev pub events_of : Equipment → List Entry → List Event
events_of item facts = events_in item (classes_of item.component facts) (limit_on item (classes_of item.component facts)) facts

-- the duties and tags of a component by the rows of a file and facts in key order
abbrev pub lists_by : ℕ → List SealRow → List Entry → Equipment → List SealDuty × List SealTag
lists_by day rows facts item = (duties_by_rows item (events_of item facts) rows day, tags_by_rows item (events_of item facts) rows day)

-- the duties and tags of a component, if the facts enter it
abbrev pub seals_on : ℕ → ℕ → List SealRow → List Entry → Option (List SealDuty × List SealTag)
seals_on component day rows facts = option_map (lists_by day rows facts) (equipment_of component facts)

-- two files without bad records and with the same rows, and two histories with the same batches, give the same duties and tags
abbrev pub SealsForgetOrder : Type 0
SealsForgetOrder =
    (text other : List ℕ) (rows more : List SealRow) (history batches : List Batch) (component day : ℕ)
    → rows_of_records (records_of text) ≡ Ok rows → rows_of_records (records_of other) ≡ Ok more
    → IsPermutation (map unnumbered rows) (map unnumbered more) → IsPermutation history batches → IsTrue (identities_differ history)
    → seals_on component day (in_order comes_first more) (facts_to day batches)
    ≡ seals_on component day (in_order comes_first rows) (facts_to day history)
