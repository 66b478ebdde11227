-- What the rule requires of a component on a day: which rules apply to it, and how it is designated.
use Rattle.std.specs.Prelude.{ℕ, Bool, true, false, List}
use Rattle.fact_kinds.specs.declared.class.Class.{Class}
use Rattle.fact_kinds.specs.declared.class.Designation.{Designation}
use Rattle.fact_kinds.specs.declared.class.Designation.TheVariants.{Plain, Nde, Unsafe, Difficult}
use Rattle.fact_kinds.specs.declared.key.Key.{Key}
use Rattle.ldar_law.specs.declared.equipment.Equipment.{Equipment}
use Rattle.ldar_law.specs.declared.regime.Regime.{Regime}
use Rattle.ldar_law.specs.declared.regime.Regime.TheVariants.{ValveRules, PumpRules, CompressorRules, ReliefRules, HeavyLiquidRules, LeftOut}
use Rattle.ldar_law.specs.Force.{class_on, regime_on}

-- ---- tests of a regime and of a designation

-- the rules for valves
abbrev pub are_valve_rules : Regime → Bool
are_valve_rules ValveRules = true
are_valve_rules _ = false

-- the rules for pumps
abbrev pub are_pump_rules : Regime → Bool
are_pump_rules PumpRules = true
are_pump_rules _ = false

-- the rules for compressors
abbrev pub are_compressor_rules : Regime → Bool
are_compressor_rules CompressorRules = true
are_compressor_rules _ = false

-- the rules for relief devices
abbrev pub are_relief_rules : Regime → Bool
are_relief_rules ReliefRules = true
are_relief_rules _ = false

-- the rules for heavy liquid service
abbrev pub are_heavy_liquid_rules : Regime → Bool
are_heavy_liquid_rules HeavyLiquidRules = true
are_heavy_liquid_rules _ = false

-- the rules exclude the component
abbrev pub leave_out : Regime → Bool
leave_out LeftOut = true
leave_out _ = false

-- no designation
abbrev pub is_none_designated : Designation → Bool
is_none_designated Plain = true
is_none_designated _ = false

-- for no detectable emissions
abbrev pub is_nde_designated : Designation → Bool
is_nde_designated Nde = true
is_nde_designated _ = false

-- unsafe to monitor
abbrev pub is_unsafe_designated : Designation → Bool
is_unsafe_designated Unsafe = true
is_unsafe_designated _ = false

-- difficult to monitor
abbrev pub is_difficult_designated : Designation → Bool
is_difficult_designated Difficult = true
is_difficult_designated _ = false

-- ---- of a component, with its classes in key order, on a day

module _ (item : Equipment) (classes : List (Key × Class)) (day : ℕ) where
  -- a valve in gas/vapor or light liquid service (40 CFR 60.482-7a)
  abbrev pub is_under_valve_rules : Bool
  is_under_valve_rules = are_valve_rules (regime_on item classes day)

  -- a pump in light liquid service (40 CFR 60.482-2a)
  abbrev pub is_under_pump_rules : Bool
  is_under_pump_rules = are_pump_rules (regime_on item classes day)

  -- a compressor in gas/vapor service (40 CFR 60.482-3a; the service is our own rule)
  abbrev pub is_under_compressor_rules : Bool
  is_under_compressor_rules = are_compressor_rules (regime_on item classes day)

  -- a relief device in gas/vapor service (40 CFR 60.482-4a)
  abbrev pub is_under_relief_rules : Bool
  is_under_relief_rules = are_relief_rules (regime_on item classes day)

  -- a valve or pump in heavy liquid service, or a relief device in light or heavy liquid service (40 CFR 60.482-8a)
  abbrev pub is_under_heavy_liquid_rules : Bool
  is_under_heavy_liquid_rules = are_heavy_liquid_rules (regime_on item classes day)

  -- in an excluded service (40 CFR 60.482-1a(d), (e))
  abbrev pub is_left_out : Bool
  is_left_out = leave_out (regime_on item classes day)

  -- not designated
  abbrev pub is_plain : Bool
  is_plain = is_none_designated (class_on item classes day).designation

  -- designated for no detectable emissions (40 CFR 60.482-2a(e), 60.482-3a(i), 60.482-7a(f))
  abbrev pub is_nde : Bool
  is_nde = is_nde_designated (class_on item classes day).designation

  -- designated as unsafe to monitor (40 CFR 60.482-2a(g), 60.482-7a(g))
  abbrev pub is_unsafe : Bool
  is_unsafe = is_unsafe_designated (class_on item classes day).designation

  -- designated as difficult to monitor (40 CFR 60.482-7a(h))
  abbrev pub is_difficult : Bool
  is_difficult = is_difficult_designated (class_on item classes day).designation
