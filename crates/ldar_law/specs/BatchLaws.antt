-- Laws about facts that follow other facts, and about a history with one more batch.
use Rattle.std.specs.Prelude.{◌≡◌, ℕ, ◌&&◌, ◌||◌, nat_le, None, List, [], ◌∷◌, ◌++◌}
use Rattle.std.specs.List.{list_any}
use Rattle.std.specs.Option.{option_map, option_or}
use Rattle.list_words.specs.Order.{in_order}
use Rattle.fact_kinds.specs.declared.batch.Batch.{Batch}
use Rattle.fact_kinds.specs.Facts.{Entry, goes_first}
use Rattle.ldar_law.specs.declared.equipment.Equipment.{Equipment}
use Rattle.ldar_law.specs.Equipment.{retires, retired_on, equipment_of, unit_entry_of}
use Rattle.ldar_law.specs.Force.{has_come}
use Rattle.ldar_law.specs.Judged.{register_with, first_entry}
use Rattle.ldar_law.specs.Slices.{register_facts}
use Rattle.ldar_law.specs.Verdicts.{is_pass, is_ruly, verdict_on}

-- the first entry of a component in two lists of facts, one after the other, is the one in the first list, or else in the second
abbrev pub FirstEntryOfTwo : Type 0
FirstEntryOfTwo =
    (number : ℕ) (facts more : List Entry) → first_entry number (facts ++ more) ≡ option_or (first_entry number facts) (first_entry number more)

-- the first entry of a process unit in two lists of facts is the one in the first list, or else in the second
abbrev pub FirstUnitOfTwo : Type 0
FirstUnitOfTwo =
    (number : ℕ) (facts more : List Entry) → unit_entry_of number (facts ++ more) ≡ option_or (unit_entry_of number facts) (unit_entry_of number more)

-- the entries in the register contain the first entry of each component
abbrev pub FirstEntryIsRegistered : Type 0
FirstEntryIsRegistered = (number : ℕ) (facts : List Entry) → first_entry number (register_facts facts) ≡ first_entry number facts

-- the component without its retirement
abbrev pub unretired : Equipment → Equipment
unretired item = record item { retired = None }

-- apart from its retirement, a component is as its first entry has it
abbrev pub FirstEntryIsEquipment : Type 0
FirstEntryIsEquipment = (number : ℕ) (facts : List Entry) → option_map unretired (equipment_of number facts) ≡ first_entry number facts

-- after some more facts, a component is retired by a day if it was before, or if one of those facts retires it by then
abbrev pub RetiredAfterFacts : Type 0
RetiredAfterFacts =
    (number day : ℕ) (entries more : List Entry)
    → has_come (retired_on number (register_with (in_order goes_first entries) more).in_order) day
    ≡ (has_come (retired_on number (in_order goes_first entries)) day || list_any (λ e. retires number e.1.body && nat_le e.0.day day) more)

-- a history with one more batch is ruly exactly if it was ruly before and the batch passes after it
abbrev pub RulyByOneMore : Type 0
RulyByOneMore = (history : List Batch) (batch : Batch) → is_ruly (history ++ batch ∷ []) ≡ (is_ruly history && is_pass (verdict_on history batch))
