-- The number of a fact by which an index lists it.
use Rattle.std.specs.Prelude.{ℕ, ◌≤◌, Vec, Option, List, count_by}
use Rattle.fact_kinds.specs.declared.body.FactBody.{FactBody}
use Rattle.fact_kinds.specs.Named.{component_of, unit_of, tested_instrument, reading_instrument, is_numbered}
use Rattle.fact_kinds.specs.Stated.{Stated}
use Rattle.fact_store.specs.declared.naming.Naming.{Naming}
use Rattle.fact_store.specs.declared.naming.Naming.TheVariants.{Component, Unit as OfUnit, Tested, Reading}
use Rattle.fact_store.specs.Lists.{room_in}

-- the number of a fact, if its kind has one
abbrev pub named_by : Naming → FactBody → Option ℕ
named_by Component body = component_of body
named_by OfUnit body = unit_of body
named_by Tested body = tested_instrument body
named_by Reading body = reading_instrument body

-- each list has room for one element of each of these facts that has its number
abbrev pub HasRoomFor : {X Z : Type 0} → (FactBody → Option ℕ) → List Stated → List (Vec X Z) → Type 0
HasRoomFor naming facts lists = (n : ℕ) → count_by (λ fact. is_numbered (naming fact.body) n) facts ≤ room_in lists n
