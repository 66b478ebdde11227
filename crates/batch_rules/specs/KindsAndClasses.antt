-- The type of a component, and its class on a day.
use Rattle.std.specs.Prelude.{ℕ, Bool, false, Option, Some, None}
use Rattle.std.specs.Option.{option_map}
use Rattle.fact_kinds.specs.declared.body.FactBody.{FactBody}
use Rattle.fact_kinds.specs.declared.class.Class.{Class}
use Rattle.fact_kinds.specs.declared.class.Kind.{Kind}
use Rattle.ldar_law.specs.Denials.{component_asked}
use Rattle.ldar_law.specs.Judged.{Register, first_entry, class_held}

-- the type and class of a component on a day, or None if it was not entered
abbrev pub kind_and_class_of : Register → ℕ → ℕ → Option (Kind × Class)
kind_and_class_of register component day = option_map (λ item. (item.kind, class_held register item day)) (first_entry component register.entered)

-- the type and class of the component that a fact requires
abbrev pub kind_and_class_by : Register → ℕ → FactBody → Option (Kind × Class)
kind_and_class_by register day body = elim (component_asked body) [ None ↦ None | Some c ↦ kind_and_class_of register c day ]

-- the test passes for the type and class of an entered component
abbrev pub is_so : (Kind → Class → Bool) → Option (Kind × Class) → Bool
is_so test None = false
is_so test (Some both) = test both.0 both.1
