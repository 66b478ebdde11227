-- How the rule treats a component on days between which no class is entered for it.
use Rattle.std.specs.Prelude.{◌≡◌, ℕ, Bool, not, ◌&&◌, ◌||◌, List}
use Rattle.fact_kinds.specs.declared.class.Class.{Class}
use Rattle.fact_kinds.specs.declared.key.Key.{Key}
use Rattle.ldar_law.specs.declared.equipment.Equipment.{Equipment}
use Rattle.ldar_law.specs.ClassInForce.{IsInForce}
use Rattle.ldar_law.specs.Force.{class_on}
use Rattle.ldar_law.specs.Limits.{regime_of, limit_of}
use Rattle.ldar_law.specs.Standing.{is_under_pump_rules, is_under_compressor_rules, is_nde}
use Rattle.ldar_law.specs.Standing.{are_valve_rules, are_pump_rules, are_compressor_rules, are_heavy_liquid_rules, leave_out, is_nde_designated}
use Rattle.method21_reading.specs.declared.rules.Rules.{Rules}
use Rattle.method21_reading.specs.declared.standing.Standing.{Standing}

-- how the rule treats a component of a class, with a leak definition
abbrev pub rules_of : Equipment → Class → ℕ → Rules
rules_of item class limit = record {
  left_out = leave_out (regime_of item.kind class.service);
  limit = limit;
  readings_leak = not (is_nde_designated class.designation)
      && (are_valve_rules (regime_of item.kind class.service) || are_pump_rules (regime_of item.kind class.service)
      || are_heavy_liquid_rules (regime_of item.kind class.service));
  drips_leak = are_pump_rules (regime_of item.kind class.service) && not (is_nde_designated class.designation);
  sensors_leak = are_compressor_rules (regime_of item.kind class.service) && not (is_nde_designated class.designation);
}

-- its designated drips are leaks on a day, by the classes entered for it (40 CFR 60.482-2a(b)(2)(ii))
abbrev pub drips_leak_on : Equipment → List (Key × Class) → ℕ → Bool
drips_leak_on item classes day = is_under_pump_rules item classes day && not (is_nde item classes day)

-- its sensor's indications are leaks on a day, by the classes entered for it (40 CFR 60.482-3a(f))
abbrev pub sensors_leak_on : Equipment → List (Key × Class) → ℕ → Bool
sensors_leak_on item classes day = is_under_compressor_rules item classes day && not (is_nde item classes day)

-- how the rule treats it on a day, by the classes entered for it and the leak definition of each day
abbrev pub rules_on : Equipment → List (Key × Class) → (ℕ → ℕ) → ℕ → Rules
rules_on item classes limit day = rules_of item (class_on item classes day) (limit day)

-- the rules are those of a class, and that class is in force on each day of its range
abbrev pub StandsSo : Equipment → List (Key × Class) → Standing → Type 0
StandsSo item classes standing =
    (standing.rules ≡ rules_of item standing.under.class (limit_of item.kind item.monomer standing.under.class)) × IsInForce item classes standing.under
