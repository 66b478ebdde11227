-- Rows by number, and what the register holds of a component and of a process unit.
use Rattle.std.specs.Prelude.{◌≡◌, ℕ, ◌<◌, ◌≤◌, nat_eq, nat_le, if◌then◌else◌, Option, Some, None, List, length}
use Rattle.std.specs.List.{AllByRecursion}
use Rattle.std.specs.Option.{option_or}
use Rattle.fact_kinds.specs.declared.body.FactBody.{FactBody}
use Rattle.fact_kinds.specs.Stated.{Stated}
use Rattle.fact_store.specs.Lists.{value_at}
use Rattle.ldar_law.specs.declared.unit_entry.UnitEntry.{UnitEntry}
use Rattle.ldar_law.specs.Equipment.{retires, component_entered, unit_entered}
use Rattle.component_register.specs.declared.slots.Slot.{Slot}

-- the row of a number, and an empty one past the end
abbrev pub row_in : {T : Type 0} → T → List T → ℕ → T
row_in empty rows number = value_at (λ row. row) empty rows number

-- there is a row of the number, if there is a number
abbrev pub HasRow : {T : Type 0} → Option ℕ → List T → Type 0
HasRow None rows = Unit {0}
HasRow (Some number) rows = number < length rows

-- there are rows of the numbers that these facts name
abbrev pub HaveRows : {T : Type 0} → (FactBody → Option ℕ) → List Stated → List T → Type 0
HaveRows naming facts rows = AllByRecursion (λ fact. HasRow (naming fact.body) rows) facts

-- rows are added, all of them empty
pub record OnlyAdds {T : Type 0} (empty : T) (old new : List T) : Type 0 where
  pub rows : (number : ℕ) → row_in empty new number ≡ row_in empty old number
  pub grows : length old ≤ length new

-- one row is written
pub record SetsRow {T : Type 0} (number : ℕ) (row : T) (old new : List T) : Type 0 where
  pub rows : (empty : T) (n : ℕ) → row_in empty new n ≡ (if nat_eq number n then row else row_in empty old n)
  pub same : length new ≡ length old

-- nothing was entered of the component
abbrev pub no_slot : Slot
no_slot = record { entered = None; retired = None }

-- the earlier of a day and another, if there is one
abbrev pub earlier_day : ℕ → Option ℕ → Option ℕ
earlier_day day None = Some day
earlier_day day (Some first) = if nat_le first day then Some first else Some day

-- what is held of a component, when a fact of a day has come
abbrev pub slot_with : ℕ → ℕ → FactBody → Slot → Slot
slot_with number day body slot = record {
  entered = option_or (component_entered number None day body) slot.entered;
  retired = if retires number body then earlier_day day slot.retired else slot.retired;
}

-- each component has what a fact of a day says of it
pub record TakesEntry (day : ℕ) (body : FactBody) (old new : List Slot) : Type 0 where
  pub rows : (n : ℕ) → row_in no_slot new n ≡ slot_with n day body (row_in no_slot old n)
  pub same : length new ≡ length old

-- .. and each process unit
pub record TakesUnit (day : ℕ) (body : FactBody) (old new : List (Option UnitEntry)) : Type 0 where
  pub rows : (n : ℕ) → row_in None new n ≡ option_or (unit_entered n day body) (row_in None old n)
  pub same : length new ≡ length old
