-- Why a fact is denied: one test for each rule, named after what it finds.
use Rattle.std.specs.Prelude.{ℕ, ◌+◌, ◌*◌, Bool, true, false, not, ◌&&◌, ◌||◌, nat_lt, nat_le, nat_eq}
use Rattle.std.specs.Prelude.{if◌then◌else◌, Option, Some, None, is_none, is_some, List, [], ◌∷◌, length, filter}
use Rattle.list_words.specs.Words.{each_where}
use Rattle.ldar_days.specs.Calendar.{month_of}
use Rattle.ldar_days.specs.Quarters.{quarter_of, quarter_first}
use Rattle.fact_kinds.specs.declared.class.Class.{Class}
use Rattle.fact_kinds.specs.declared.class.Kind.{Kind}
use Rattle.fact_kinds.specs.declared.class.Kind.TheVariants.{Pump, Compressor}
use Rattle.fact_kinds.specs.declared.class.Service.{Service}
use Rattle.fact_kinds.specs.declared.class.Service.TheVariants.{Gas, Light, Heavy, Vacuum, Under300}
use Rattle.fact_kinds.specs.declared.class.Designation.{Designation}
use Rattle.fact_kinds.specs.declared.class.Designation.TheVariants.{Plain, Nde, Unsafe}
use Rattle.fact_kinds.specs.declared.body.Sort.{Sort}
use Rattle.fact_kinds.specs.declared.body.Sort.TheVariants.{Sensor, Evidence}
use Rattle.fact_kinds.specs.declared.body.FactBody.{FactBody}
use Rattle.fact_kinds.specs.declared.body.FactBody.TheVariants.{Unit as UnitFact, Component as ComponentFact, Class as ClassFact, Retire, Election, Shutdown}
use Rattle.fact_kinds.specs.declared.body.FactBody.TheVariants.{Calibration, Precision, Drift, Reading, Visual, Attempt, Delay, Release, Indication}
use Rattle.fact_kinds.specs.Facts.{Entry}
use Rattle.ldar_law.specs.declared.equipment.Equipment.{Equipment}
use Rattle.ldar_law.specs.declared.grounds.TheConstants.{GROUND_SHUTDOWN, GROUND_PURGING, GROUND_DUAL_SEAL, GROUND_STOCK}
use Rattle.ldar_law.specs.declared.numbers.TheConstants.{LAST_FACT_DAY, NOTICE_DAYS}
use Rattle.ldar_law.specs.declared.regime.Regime.{Regime}
use Rattle.ldar_law.specs.declared.regime.Regime.TheVariants.{ValveRules, PumpRules, CompressorRules}
use Rattle.ldar_law.specs.Equipment.{retired_on, unit_entry_of}
use Rattle.ldar_law.specs.Force.{has_come}
use Rattle.ldar_law.specs.Judged.{Register, Case, first_entry, class_held, is_so_of, is_kind_so}
use Rattle.ldar_law.specs.Kinds.{is_valve, is_pump}
use Rattle.ldar_law.specs.Limits.{regime_of}
use Rattle.ldar_law.specs.Slices.{is_registered}
use Rattle.ldar_law.specs.Standing.{are_pump_rules, are_compressor_rules, are_relief_rules, are_heavy_liquid_rules, is_difficult_designated}

-- ---- kinds and services

-- vacuum service
abbrev pub is_vacuum : Service → Bool
is_vacuum Vacuum = true
is_vacuum _ = false

-- VOC service less than 300 hours a year
abbrev pub is_under_300 : Service → Bool
is_under_300 Under300 = true
is_under_300 _ = false

-- the indication of a sensor
abbrev pub is_of_sensor : Sort → Bool
is_of_sensor Sensor = true
is_of_sensor Evidence = false

-- the kind may have the service: a compressor has no liquid service, and a pump has no gas service
abbrev pub suits_service : Kind → Service → Bool
suits_service Pump Gas = false
suits_service Compressor Light = false
suits_service Compressor Heavy = false
suits_service _ _ = true

-- a component under the rules may have the designation: no detectable emissions for valves, pumps and compressors, unsafe for valves and
-- pumps, difficult for valves
abbrev pub suits_designation : Regime → Designation → Bool
suits_designation _ Plain = true
suits_designation ValveRules _ = true
suits_designation PumpRules Nde = true
suits_designation PumpRules Unsafe = true
suits_designation CompressorRules Nde = true
suits_designation _ _ = false

-- the kind may have the service and the designation
abbrev pub suits : Kind → Class → Bool
suits kind class = suits_service kind class.service && suits_designation (regime_of kind class.service) class.designation

-- the component is not under such rules
abbrev pub is_not_under : (Regime → Bool) → Kind → Class → Bool
is_not_under are_rules kind class = not (are_rules (regime_of kind class.service))

-- ---- the rules on a component

-- the component that a fact needs, which must have been entered
abbrev pub component_asked : FactBody → Option ℕ
component_asked (ClassFact c _) = Some c
component_asked (Retire c) = Some c
component_asked (Reading c _ _ _ _ _) = Some c
component_asked (Visual c _) = Some c
component_asked (Attempt c _) = Some c
component_asked (Delay c _ _ _) = Some c
component_asked (Release c) = Some c
component_asked (Indication c _ _) = Some c
component_asked (UnitFact _ _ _) = None
component_asked (ComponentFact _ _ _ _ _ _) = None
component_asked (Election _ _ _) = None
component_asked (Shutdown _ _) = None
component_asked (Calibration _ _) = None
component_asked (Precision _ _ _) = None
component_asked (Drift _ _ _) = None

-- rule 1 (40 CFR 60.486a(e)(1)): the component was not entered
abbrev pub component_unknown : Case → Bool
component_unknown case = elim (component_asked case.entry.1.body) [ None ↦ false | Some c ↦ is_none (first_entry c case.known.entered) ]

-- the component that a reading or a visual inspection is made at
abbrev pub component_looked_at : FactBody → Option ℕ
component_looked_at (Reading c _ _ _ _ _) = Some c
component_looked_at (Visual c _) = Some c
component_looked_at _ = None

-- the fact is a reading or a visual inspection in such a service
abbrev pub is_look_in : (Service → Bool) → Case → Bool
is_look_in test case = elim (component_looked_at case.entry.1.body) [ None ↦ false | Some c ↦ is_so_of case c (λ kind class. test class.service) ]

-- rule 2 (40 CFR 60.482-1a(d)): a reading or a visual inspection in vacuum service
abbrev pub looked_in_vacuum : Case → Bool
looked_in_vacuum case = is_look_in is_vacuum case

-- rule 3 (40 CFR 60.482-1a(e)): a reading or a visual inspection in VOC service less than 300 hours a year
abbrev pub looked_under_300_hours : Case → Bool
looked_under_300_hours case = is_look_in is_under_300 case

-- rule 4 (40 CFR 60.486a(a)(3)): a reading without an instrument or an operator
abbrev pub reading_unsigned : Case → Bool
reading_unsigned case = elim case.entry.1.body [ Reading c instrument operator purpose ppm background ↦ nat_eq instrument 0 || nat_eq operator 0 | _ ↦ false ]

-- rule 5 (40 CFR 60.482-2a(a)(2)): a visual inspection of a component that is not a pump in light liquid service
abbrev pub no_pump_to_see : Case → Bool
no_pump_to_see case = elim case.entry.1.body [ Visual c state ↦ is_so_of case c (is_not_under are_pump_rules) | _ ↦ false ]

-- rule 6 (40 CFR 60.482-3a(f)): a sensor's indication at a component that is not a compressor in gas service
abbrev pub no_compressor_to_sense : Case → Bool
no_compressor_to_sense case = elim case.entry.1.body [
  | Indication c sort present ↦ is_of_sensor sort && is_so_of case c (is_not_under are_compressor_rules)
  | _ ↦ false
]

-- rule 7 (40 CFR 60.482-4a(b)): a pressure release of a component that is not a relief device in gas service
abbrev pub no_relief_device : Case → Bool
no_relief_device case = elim case.entry.1.body [ Release c ↦ is_so_of case c (is_not_under are_relief_rules) | _ ↦ false ]

-- rule 8 (40 CFR 60.482-8a(a)): evidence of a potential leak at a component to which the rule on evidence does not apply
abbrev pub no_evidence_counts : Case → Bool
no_evidence_counts case = elim case.entry.1.body [
  | Indication c sort present ↦ not (is_of_sensor sort) && is_so_of case c (is_not_under are_heavy_liquid_rules)
  | _ ↦ false
]

-- ---- the rules on delays of repair

-- the fact is a delay of this ground at a component of another kind
abbrev pub is_ground_for_another : ℕ → (Kind → Bool) → Case → Bool
is_ground_for_another wanted test case = elim case.entry.1.body [
  | Delay c why signer expected ↦ nat_eq why wanted && is_kind_so case c (λ kind. not (test kind))
  | _ ↦ false
]

-- rule 9 (40 CFR 60.482-9a(c)): purging emits more, at a component that is not a valve
abbrev pub purges_no_valve : Case → Bool
purges_no_valve case = is_ground_for_another GROUND_PURGING is_valve case

-- rule 10 (40 CFR 60.482-9a(d)): a dual seal for a component that is not a pump
abbrev pub seals_no_pump : Case → Bool
seals_no_pump case = is_ground_for_another GROUND_DUAL_SEAL is_pump case

-- rule 11 (40 CFR 60.482-9a(e)): valves out of stock for a component that is not a valve
abbrev pub stocks_no_valve : Case → Bool
stocks_no_valve case = is_ground_for_another GROUND_STOCK is_valve case

-- rule 12 (40 CFR 60.486a(c)(6)): a delay until a shutdown without the signature of the person who decided it
abbrev pub delay_unsigned : Case → Bool
delay_unsigned case = elim case.entry.1.body [ Delay c why signer expected ↦ nat_eq why GROUND_SHUTDOWN && nat_eq signer 0 | _ ↦ false ]

-- rule 13 (40 CFR 60.486a(c)(7)): a delay that is not withdrawn, without an expected day of repair
abbrev pub repair_not_expected : Case → Bool
repair_not_expected case = elim case.entry.1.body [ Delay c why signer expected ↦ nat_le 1 why && is_none expected | _ ↦ false ]

-- ---- the rules on programs and shares

-- rule 14 (40 CFR 60.487a(d)): skip periods are elected with less than 90 days' notice
abbrev pub notified_late : Case → Bool
notified_late case = elim case.entry.1.body [ Election u mode notified ↦ nat_le 1 mode && nat_lt case.entry.0.day (notified + NOTICE_DAYS) | _ ↦ false ]

-- the number of the component that a fact enters
abbrev pub number_entered : FactBody → Option ℕ
number_entered (ComponentFact c _ _ _ _ _) = Some c
number_entered _ = None

-- the component that a fact enters, unless it was entered before
abbrev pub entered_first : List Entry → Entry → Option Equipment
entered_first before entry = elim (number_entered entry.1.body) [
  | None ↦ None
  | Some c ↦ if is_none (first_entry c before) then first_entry c (entry ∷ []) else None
]

-- each component once, as its first entry has it
abbrev pub components_once : Register → List Equipment
components_once register = each_where (λ before entry after. entered_first before entry) register.entered

-- the component has begun by a day and is not retired
abbrev pub serves_on : Register → ℕ → Equipment → Bool
serves_on register day item = nat_le item.begin day && not (has_come (retired_on item.component register.in_order) day)

-- the valves of a process unit that are in service on a day
abbrev pub valves_in_service : Register → ℕ → ℕ → List Equipment
valves_in_service register unit day =
    filter (λ item. nat_eq item.unit unit && is_valve item.kind && serves_on register day item) (components_once register)

-- the valves among these that are difficult to monitor by their class on the day
abbrev pub difficult_among : Register → ℕ → List Equipment → List Equipment
difficult_among register day valves = filter (λ item. is_difficult_designated (class_held register item day).designation) valves

-- three in a hundred or more of the unit's valves in service on the fact's day are difficult, by all facts of the history and the batch
abbrev pub is_share_reached : Case → ℕ → Bool
is_share_reached case unit =
    let valves = valves_in_service case.whole unit case.entry.0.day in
    nat_le (length valves * 3) (length (difficult_among case.whole case.entry.0.day valves) * 100)

-- the unit was entered, and its share of difficult valves is limited
abbrev pub is_bounded : Case → ℕ → Bool
is_bounded case unit = elim (unit_entry_of unit case.whole.entered) [ None ↦ false | Some u ↦ not u.older ]

-- the unit of a valve that the fact makes difficult to monitor
abbrev pub unit_with_one_more : Case → Option ℕ
unit_with_one_more case = elim case.entry.1.body [
  | ComponentFact c unit kind monomer replaces class ↦ if is_valve kind && is_difficult_designated class.designation then Some unit else None
  | ClassFact c class ↦ elim (first_entry c case.whole.entered) [
    | None ↦ None
    | Some item ↦ if is_valve item.kind && is_difficult_designated class.designation then Some item.unit else None
  ]
  | _ ↦ None
]

-- rule 15 (40 CFR 60.482-7a(h)(2)(ii)): one more valve is made difficult to monitor, and 3 percent or more of the unit's valves are
-- difficult
abbrev pub too_many_difficult : Case → Bool
too_many_difficult case = elim (unit_with_one_more case) [ None ↦ false | Some unit ↦ is_bounded case unit && is_share_reached case unit ]

-- ---- the rules of the office (our own)

-- rule 16: a handheld other than 0, the office's own, makes an entry in the register
abbrev pub entered_by_a_handheld : Case → Bool
entered_by_a_handheld case = is_registered case.entry.1.body && nat_lt 0 case.entry.0.handheld

-- the unit that a fact needs, which must have been entered
abbrev pub unit_asked : FactBody → Option ℕ
unit_asked (ComponentFact c unit _ _ _ _) = Some unit
unit_asked (Election unit _ _) = Some unit
unit_asked (Shutdown unit _) = Some unit
unit_asked (UnitFact _ _ _) = None
unit_asked (ClassFact _ _) = None
unit_asked (Retire _) = None
unit_asked (Calibration _ _) = None
unit_asked (Precision _ _ _) = None
unit_asked (Drift _ _ _) = None
unit_asked (Reading _ _ _ _ _ _) = None
unit_asked (Visual _ _) = None
unit_asked (Attempt _ _) = None
unit_asked (Delay _ _ _ _) = None
unit_asked (Release _) = None
unit_asked (Indication _ _ _) = None

-- rule 17: the unit was not entered
abbrev pub unit_unknown : Case → Bool
unit_unknown case = elim (unit_asked case.entry.1.body) [ None ↦ false | Some unit ↦ is_none (unit_entry_of unit case.known.entered) ]

-- rule 18: a unit or a component is entered a second time
abbrev pub entered_twice : Case → Bool
entered_twice case = elim case.entry.1.body [
  | UnitFact unit older name ↦ is_some (unit_entry_of unit case.known.entered)
  | ComponentFact c unit kind monomer replaces class ↦ is_some (first_entry c case.known.entered)
  | _ ↦ false
]

-- rule 19: the fact's day is past 2097-12-31
abbrev pub day_too_late : Case → Bool
day_too_late case = nat_lt LAST_FACT_DAY case.entry.0.day

-- the day is the first of a quarter
abbrev pub begins_quarter : ℕ → ℕ → Bool
begins_quarter startup day = elim (quarter_of startup (month_of day)) [ None ↦ false | Some quarter ↦ nat_eq (quarter_first startup quarter) day ]

-- rule 20: an election that does not begin with a quarter of its unit
abbrev pub elected_within_a_quarter : Case → Bool
elected_within_a_quarter case = elim case.entry.1.body [
  | Election unit mode notified ↦ elim (unit_entry_of unit case.known.entered) [ None ↦ false | Some u ↦ not (begins_quarter u.startup case.entry.0.day) ]
  | _ ↦ false
]

-- rule 21: the service or the designation does not suit the kind of component
abbrev pub class_unsuited : Case → Bool
class_unsuited case = elim case.entry.1.body [
  | ComponentFact c unit kind monomer replaces class ↦ not (suits kind class)
  | ClassFact c class ↦ is_kind_so case c (λ kind. not (suits kind class))
  | _ ↦ false
]
