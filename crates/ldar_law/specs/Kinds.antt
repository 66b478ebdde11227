-- What kind a component is.
use Rattle.std.specs.Prelude.{Bool, true, false}
use Rattle.fact_kinds.specs.declared.class.Kind.{Kind}
use Rattle.fact_kinds.specs.declared.class.Kind.TheVariants.{Pump, Compressor}
pub use Rattle.ldar_law.specs.Spans.{is_valve}

abbrev pub is_pump : Kind → Bool
is_pump Pump = true
is_pump _ = false

abbrev pub is_compressor : Kind → Bool
is_compressor Compressor = true
is_compressor _ = false
