-- The rules for a kind of component in a service, and its leak definition (40 CFR 60.482-1a to 60.482-8a).
use Rattle.std.specs.Prelude.{ℕ, Bool, true, false}
use Rattle.fact_kinds.specs.declared.class.Class.{Class}
use Rattle.fact_kinds.specs.declared.class.Kind.{Kind}
use Rattle.fact_kinds.specs.declared.class.Kind.TheVariants.{Valve, Pump, Compressor, Relief}
use Rattle.fact_kinds.specs.declared.class.Service.{Service}
use Rattle.fact_kinds.specs.declared.class.Service.TheVariants.{Gas, Light, Heavy}
use Rattle.ldar_law.specs.declared.regime.Regime.{Regime}
use Rattle.ldar_law.specs.declared.regime.Regime.TheVariants.{ValveRules, PumpRules, CompressorRules, ReliefRules, HeavyLiquidRules, LeftOut}

-- the rules for a kind of component in a service (40 CFR 60.482-2a, 60.482-3a, 60.482-4a, 60.482-7a, 60.482-8a)
abbrev pub regime_of : Kind → Service → Regime
regime_of Valve Gas = ValveRules
regime_of Valve Light = ValveRules
regime_of Valve Heavy = HeavyLiquidRules
regime_of Pump Light = PumpRules
regime_of Pump Heavy = HeavyLiquidRules
regime_of Compressor Gas = CompressorRules
regime_of Relief Gas = ReliefRules
regime_of Relief Light = HeavyLiquidRules
regime_of Relief Heavy = HeavyLiquidRules
regime_of _ _ = LeftOut

-- the leak definition in parts per million (40 CFR 60.482-2a(b)(1), 60.482-7a(b), 60.482-8a(b)). It is higher for a pump that handles
-- polymerizing monomers; it is 500 if the rules set none (our own rule).
abbrev pub limit_under : Regime → Bool → ℕ
limit_under PumpRules true = 5_000
limit_under PumpRules false = 2_000
limit_under HeavyLiquidRules _ = 10_000
limit_under _ _ = 500

-- the leak definition of a component of this class
abbrev pub limit_of : Kind → Bool → Class → ℕ
limit_of kind monomer class = limit_under (regime_of kind class.service) monomer
