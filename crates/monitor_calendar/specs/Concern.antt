-- Which causes can apply to a component at all, by its kind and by its classes.
use Rattle.std.specs.Prelude.{Bool, true, false, ◌||◌, List}
use Rattle.std.specs.List.{list_any}
use Rattle.fact_kinds.specs.declared.class.Class.{Class}
use Rattle.fact_kinds.specs.declared.class.Designation.{Designation}
use Rattle.fact_kinds.specs.declared.class.Kind.{Kind}
use Rattle.fact_kinds.specs.declared.class.Kind.TheVariants.{Relief}
use Rattle.fact_kinds.specs.declared.key.Key.{Key}
use Rattle.ldar_law.specs.declared.equipment.Equipment.{Equipment}
use Rattle.ldar_law.specs.Kinds.{is_pump}
use Rattle.ldar_law.specs.Limits.{regime_of}
use Rattle.ldar_law.specs.Standing.{are_heavy_liquid_rules, is_unsafe_designated, is_difficult_designated, is_nde_designated}
use Rattle.monitor_calendar.specs.declared.after_event.After.{After}
use Rattle.monitor_calendar.specs.declared.after_event.After.TheVariants.{Drips, Release, Evidence}

-- some entered class is unsafe to monitor
abbrev pub is_some_unsafe : List (Key × Class) → Bool
is_some_unsafe classes = list_any (λ entered. is_unsafe_designated entered.1.designation) classes

-- the component was entered with a class that is unsafe to monitor, or some entered class is
abbrev pub has_unsafe_class : Equipment → List (Key × Class) → Bool
has_unsafe_class item classes = is_unsafe_designated item.class.designation || is_some_unsafe classes

-- the designation leads to yearly monitoring for some kind: difficult to monitor, or no detectable emissions
abbrev pub is_yearly_designated : Designation → Bool
is_yearly_designated designation = is_difficult_designated designation || is_nde_designated designation

-- some entered class has such a designation
abbrev pub is_some_yearly : List (Key × Class) → Bool
is_some_yearly classes = list_any (λ entered. is_yearly_designated entered.1.designation) classes

-- the component was entered with such a designation, or some entered class has one
abbrev pub has_yearly_class : Equipment → List (Key × Class) → Bool
has_yearly_class item classes = is_yearly_designated item.class.designation || is_some_yearly classes

-- a pressure relief device
abbrev pub is_relief : Kind → Bool
is_relief Relief = true
is_relief _ = false

-- a component of this kind and class is under the rules for heavy liquid service
abbrev pub is_heavy_liquid : Kind → Class → Bool
is_heavy_liquid kind class = are_heavy_liquid_rules (regime_of kind class.service)

-- a component of this kind is under the rules for heavy liquid service by some entered class
abbrev pub is_some_heavy_liquid : Kind → List (Key × Class) → Bool
is_some_heavy_liquid kind classes = list_any (λ entered. is_heavy_liquid kind entered.1) classes

-- the component is under the rules for heavy liquid service by its first class or by some entered one
abbrev pub has_heavy_liquid_class : Equipment → List (Key × Class) → Bool
has_heavy_liquid_class item classes = is_heavy_liquid item.kind item.class || is_some_heavy_liquid item.kind classes

-- a duty after such an event is possible for the component
abbrev pub concerns : After → Equipment → List (Key × Class) → Bool
concerns Drips item classes = is_pump item.kind
concerns Release item classes = is_relief item.kind
concerns Evidence item classes = has_heavy_liquid_class item classes
