-- Laws about the duties of a component among those of its process unit: the statements of `laws`.
use Rattle.std.specs.Prelude.{◌≡◌, ℕ, Bool, false, nat_eq, List, ◌∷◌, ◌++◌, filter}
use Rattle.std.specs.List.{AllByRecursion}
use Rattle.fact_kinds.specs.Facts.{Entry}
use Rattle.ldar_law.specs.declared.unit_entry.UnitEntry.{UnitEntry}
use Rattle.ldar_law.specs.declared.duty.Duty.{Duty}
use Rattle.ldar_law.specs.Duties.{duties_of}
use Rattle.ldar_law.specs.Equipment.{elections_of}
use Rattle.ldar_law.specs.Units.{Known, components_of, skipped_on, due_list, duties_of_unit}

-- which quarters of the unit are skipped, from quarter 1 to the one of the day, by the unit's counts and elections
abbrev pub own_skipped : UnitEntry → ℕ → List Entry → List Bool
own_skipped unit t facts = skipped_on unit.startup t (components_of unit.unit facts) (elections_of unit.unit facts)

-- the duties of a component of the unit, with these quarters
abbrev pub part_of : UnitEntry → ℕ → List Entry → Known → List Duty
part_of unit t facts c = duties_of c.item c.classes unit.startup c.events (own_skipped unit t facts) t

-- the component's duties are in the unit's list, between those of the components before it and after it
abbrev pub PartStandsInList : Type 0
PartStandsInList =
    (unit : UnitEntry) (t : ℕ) (facts : List Entry) (before : List Known) (c : Known) (after : List Known)
    → components_of unit.unit facts ≡ before ++ c ∷ after
    → duties_of_unit unit t facts
    ≡ due_list unit.startup t (own_skipped unit t facts) before ++ (part_of unit t facts c ++ due_list unit.startup t (own_skipped unit t facts) after)

-- the component's duties are all that the unit's list has for it, if no other component of the unit has its number
abbrev pub PartIsOwn : Type 0
PartIsOwn =
    (unit : UnitEntry) (t : ℕ) (facts : List Entry) (before : List Known) (c : Known) (after : List Known)
    → components_of unit.unit facts ≡ before ++ c ∷ after
    → AllByRecursion (λ other. nat_eq other.item.component c.item.component ≡ false) before
    → AllByRecursion (λ other. nat_eq other.item.component c.item.component ≡ false) after
    → filter (λ d. nat_eq d.component c.item.component) (duties_of_unit unit t facts) ≡ part_of unit t facts c
