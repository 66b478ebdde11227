-- Which rules apply to which kind of component.
use Rattle.std.proofs.Common.{◌≡◌, false, true≢false, refl}
use Rattle.fact_kinds.specs.declared.class.Kind.{Kind}
use Rattle.fact_kinds.specs.declared.class.Kind.TheVariants.{Valve, Pump, Compressor, Relief}
use Rattle.fact_kinds.specs.declared.class.Service.{Service}
use Rattle.fact_kinds.specs.declared.class.Service.TheVariants.{Gas, Light, Heavy, Vacuum, Under300}
use Rattle.ldar_law.specs.Kinds.{is_valve}
use Rattle.ldar_law.specs.Limits.{regime_of}
use Rattle.ldar_law.specs.Standing.{are_valve_rules}

-- a component that is not a valve is not under the rules for valves
pub no_valve_rules : (kind : Kind) (service : Service) → is_valve kind ≡ false → are_valve_rules (regime_of kind service) ≡ false
no_valve_rules Valve service other = absurd (true≢false other)
no_valve_rules Pump Gas other = refl
no_valve_rules Pump Light other = refl
no_valve_rules Pump Heavy other = refl
no_valve_rules Pump Vacuum other = refl
no_valve_rules Pump Under300 other = refl
no_valve_rules Compressor Gas other = refl
no_valve_rules Compressor Light other = refl
no_valve_rules Compressor Heavy other = refl
no_valve_rules Compressor Vacuum other = refl
no_valve_rules Compressor Under300 other = refl
no_valve_rules Relief Gas other = refl
no_valve_rules Relief Light other = refl
no_valve_rules Relief Heavy other = refl
no_valve_rules Relief Vacuum other = refl
no_valve_rules Relief Under300 other = refl
