-- What is in force for a component on a day, by the classes entered for it in key order: class, service, rules and leak definition.
use Rattle.std.specs.Prelude.{ℕ, Bool, false, not, ◌&&◌, nat_le, Option, Some, None, List, option_map, unwrap_or}
use Rattle.list_words.specs.Words.{last_such}
use Rattle.fact_kinds.specs.declared.class.Class.{Class}
use Rattle.fact_kinds.specs.declared.key.Key.{Key}
use Rattle.fact_kinds.specs.Facts.{Entry}
use Rattle.ldar_law.specs.declared.equipment.Equipment.{Equipment}
use Rattle.ldar_law.specs.declared.regime.Regime.{Regime}
use Rattle.ldar_law.specs.Equipment.{equipment_of, classes_of}
use Rattle.ldar_law.specs.Limits.{regime_of, limit_of}

-- the last class entered by the day
abbrev pub class_by : ℕ → List (Key × Class) → Option (Key × Class)
class_by day classes = last_such (λ entered. nat_le entered.0.day day) classes

-- the class in force on the day (our own rule): the last one entered by then, or else the class with which the component was entered
abbrev pub class_on : Equipment → List (Key × Class) → ℕ → Class
class_on item classes day = unwrap_or (option_map (λ entered. entered.1) (class_by day classes)) item.class

-- the day, if there is one, has come
abbrev pub has_come : Option ℕ → ℕ → Bool
has_come None day = false
has_come (Some first) day = nat_le first day

-- the component is in service on the day (our own rule): it has begun and is not retired
abbrev pub is_in_service : Equipment → ℕ → Bool
is_in_service item day = nat_le item.begin day && not (has_come item.retired day)

-- the rules that apply to the component on the day
abbrev pub regime_on : Equipment → List (Key × Class) → ℕ → Regime
regime_on item classes day = regime_of item.kind (class_on item classes day).service

-- the leak definition of the component on the day, in parts per million
abbrev pub limit_on : Equipment → List (Key × Class) → ℕ → ℕ
limit_on item classes day = limit_of item.kind item.monomer (class_on item classes day)

-- the class of a component in force on the day, if the component was entered
abbrev pub class_in_force : ℕ → List Entry → ℕ → Option Class
class_in_force number facts day = option_map (λ item. class_on item (classes_of number facts) day) (equipment_of number facts)
