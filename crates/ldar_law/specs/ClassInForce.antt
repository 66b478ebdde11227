-- The class of a component that is in force on a run of days, during which no other class is entered for it.
use Rattle.std.specs.Prelude.{◌≡◌, ℕ, ◌<◌, ◌≤◌, true, false, nat_le, List, length, slice_index_or}
use Rattle.std.specs.List.Sorted.{IsPartitionPoint}
use Rattle.fact_kinds.specs.declared.class.Class.{Class}
use Rattle.fact_kinds.specs.declared.key.Key.{Key}
use Rattle.ldar_law.specs.declared.class_in_force.ClassInForce.{ClassInForce}
use Rattle.ldar_law.specs.declared.equipment.Equipment.{Equipment}
use Rattle.ldar_law.specs.Force.{class_on}

-- exactly the first `count` classes were entered by the day
abbrev pub HasEntered : ℕ → List (Key × Class) → ℕ → Type 0
HasEntered day classes count = IsPartitionPoint (λ e. nat_le e.0.day day ≡ true) (λ e. nat_le e.0.day day ≡ false) classes count

-- the class is in force from `first` to before `end`; the first `entered` classes are entered on each day from `end` on
pub record IsInForce (item : Equipment) (classes : List (Key × Class)) (standing : ClassInForce) : Type 0 where
  pub class : (day : ℕ) → standing.first ≤ day → day < standing.end → standing.class ≡ class_on item classes day
  pub within : standing.entered ≤ length classes
  pub front : (day : ℕ) → standing.end ≤ day → day < 65_536 → (k : ℕ) (e : Key × Class) → k < standing.entered →
      (slice_index_or classes k e).0.day ≤ day
