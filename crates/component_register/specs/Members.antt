-- How the members of process units take one more.
use Rattle.std.specs.Prelude.{◌≡◌, ℕ, ◌+◌, ◌≤◌, nat_lt, if◌then◌else◌, Vec, Option, Some, None, List}
use Rattle.std.specs.Option.{option_map}
use Rattle.fact_kinds.specs.declared.body.FactBody.{FactBody}
use Rattle.fact_kinds.specs.declared.body.FactBody.TheVariants.{Component as ComponentFact}
use Rattle.fact_kinds.specs.Named.{is_numbered}
use Rattle.fact_store.specs.Lists.{items_in, room_in}
use Rattle.ldar_law.specs.Equipment.{member_entered}
use Rattle.component_register.specs.Classes.{put_if_any}

-- the process unit in which a fact enters a component, and the component
abbrev pub joined : FactBody → Option (ℕ × ℕ)
joined (ComponentFact component unit _ _ _ _) = Some (unit, component)
joined _ = None

-- the process unit alone
abbrev pub unit_joined : FactBody → Option ℕ
unit_joined body = option_map (λ join. join.0) (joined body)

-- the component that a fact enters, if it enters one, is a member of its process unit, and there is room for the others
pub record TakesMember {Z : Type 0} (body : FactBody) (old new : List (Vec ℕ Z)) : Type 0 where
  pub listed : (n : ℕ) → items_in new n ≡ put_if_any nat_lt (member_entered n body) (items_in old n)
  pub room : (n : ℕ) → room_in old n ≤ room_in new n + (if is_numbered (unit_joined body) n then 1 else 0)
