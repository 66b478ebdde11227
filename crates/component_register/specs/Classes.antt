-- How the classes of components take one more.
use Rattle.std.specs.Prelude.{◌≡◌, ℕ, ◌+◌, ◌≤◌, Bool, nat_lt, if◌then◌else◌, Vec, Option, Some, None, List, [], ◌∷◌}
use Rattle.list_words.specs.Order.{put_in_order, Ascends}
use Rattle.fact_kinds.specs.declared.body.FactBody.{FactBody}
use Rattle.fact_kinds.specs.declared.body.FactBody.TheVariants.{Class as ClassFact}
use Rattle.fact_kinds.specs.declared.class.Class.{Class}
use Rattle.fact_kinds.specs.declared.key.Key.{Key}
use Rattle.fact_kinds.specs.Facts.{is_earlier}
use Rattle.fact_kinds.specs.Named.{is_numbered}
use Rattle.fact_store.specs.Lists.{items_in, room_in}
use Rattle.ldar_law.specs.Equipment.{class_entered}
use Rattle.ldar_law.specs.Force.{class_by}
use Rattle.std.specs.Option.{option_map}

-- the component of which a fact enters a class
abbrev pub class_named : FactBody → Option ℕ
class_named (ClassFact component _) = Some component
class_named _ = None

-- an element put in its place among others, if there is one
abbrev pub put_if_any : {X : Type 0} → (X → X → Bool) → Option X → List X → List X
put_if_any before None xs = xs
put_if_any before (Some x) xs = put_in_order before x xs

-- the class is of an earlier day
abbrev pub day_first : Key × Class → Key × Class → Bool
day_first a b = nat_lt a.0.day b.0.day

-- the class of two with the later key; the new one wins a tie
abbrev pub later_class : Key × Class → Key × Class → Key × Class
later_class new old = if is_earlier new.0 old.0 then old else new

-- a class put in its place among those of other days; of its own day, the last one by key stays
abbrev pub put_by_day : Key × Class → List (Key × Class) → List (Key × Class)
put_by_day new [] = new ∷ []
put_by_day new (x ∷ xs) =
    if nat_lt new.0.day x.0.day then new ∷ x ∷ xs else if nat_lt x.0.day new.0.day then x ∷ put_by_day new xs else later_class new x ∷ xs

-- .. if there is one
abbrev pub put_day_if_any : Option (Key × Class) → List (Key × Class) → List (Key × Class)
put_day_if_any None xs = xs
put_day_if_any (Some new) xs = put_by_day new xs

-- some classes, one for each of their days, are in force as all of a component's classes are
pub record IsByDay (kept all : List (Key × Class)) : Type 0 where
  pub days : Ascends day_first kept
  pub in_force : (day : ℕ) → class_by day kept ≡ class_by day all

-- each component has the class that a fact enters for it, and there is room for the others
pub record TakesClass {Z : Type 0} (key : Key) (body : FactBody) (old new : List (Vec (Key × Class) Z)) : Type 0 where
  pub listed : (n : ℕ) → items_in new n ≡ put_day_if_any (option_map (λ class. (key, class)) (class_entered n body)) (items_in old n)
  pub room : (n : ℕ) → room_in old n ≤ room_in new n + (if is_numbered (class_named body) n then 1 else 0)
