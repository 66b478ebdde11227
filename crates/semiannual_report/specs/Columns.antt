-- The types of components that have columns in a report.
use Rattle.std.specs.Prelude.{◌≤◌, Bool, false, nat_lt, List}
use Rattle.std.specs.List.{AllByRecursion}
use Rattle.list_words.specs.Order.{Ascends}
use Rattle.fact_kinds.specs.declared.class.Kind.{Kind}
use Rattle.fact_kinds.specs.declared.class.Kind.TheVariants.{Valve, Pump, Compressor, Relief}
use Rattle.ldar_law.specs.declared.numbers.TheConstants.{MOST_COMPONENTS}
use Rattle.ldar_law.specs.declared.sheet.Sheet.{Sheet}
use Rattle.ldar_law.specs.Kinds.{is_valve, is_pump, is_compressor}

-- a component of this type is counted in the columns of that type; relief devices have none (our own rule)
abbrev pub is_counted_as : Kind → Kind → Bool
is_counted_as Valve kind = is_valve kind
is_counted_as Pump kind = is_pump kind
is_counted_as Compressor kind = is_compressor kind
is_counted_as Relief kind = false

-- the sheets are of distinct components, in ascending order
pub record AreOfComponents (sheets : List Sheet) : Type 0 where
  pub ascend : Ascends (λ a b. nat_lt a.component b.component) sheets
  pub each : AllByRecursion (λ sheet. sheet.component ≤ MOST_COMPONENTS) sheets
