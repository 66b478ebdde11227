-- Whether a component is a valve that is counted, over quarters whose judging days have the same class in force.
use Rattle.std.specs.Prelude.{◌≡◌, ℕ, ◌<◌, ◌≤◌, List, length, slice_index_or}
use Rattle.fact_kinds.specs.declared.class.Class.{Class}
use Rattle.fact_kinds.specs.declared.key.Key.{Key}
use Rattle.ldar_law.specs.declared.equipment.Equipment.{Equipment}
use Rattle.ldar_law.specs.ClassInForce.{HasEntered}
use Rattle.ldar_law.specs.Force.{class_on}
use Rattle.ldar_law.specs.Percent.{judging_day}
use Rattle.skip_periods.specs.Seen.{counts_class}
use Rattle.skip_periods.specs.declared.counting.Counting.{Counting}

-- the component is counted by the last class entered so far; `end` is the first quarter by whose judging day one more class is entered, on
-- the list of the day
pub record CountsAfter (item : Equipment) (classes : List (Key × Class)) (startup day : ℕ) (counting : Counting) : Type 0 where
  pub within : counting.entered ≤ length classes
  pub counts : (judged : ℕ) → judged < 65_536 → HasEntered judged classes counting.entered →
      counting.is_counted ≡ counts_class item (class_on item classes judged)
  pub before : (quarter : ℕ) (e : Key × Class) → quarter < counting.end → counting.entered < length classes →
      judging_day startup quarter day < (slice_index_or classes counting.entered e).0.day
  pub next : (quarter : ℕ) → quarter < 65_536 → counting.end ≤ quarter → (counting.entered < length classes)
      × ((e : Key × Class) → (slice_index_or classes counting.entered e).0.day ≤ judging_day startup quarter day)

-- the classes entered so far were entered by the judging day of the quarter, and the component is counted by the last of them
pub record CountsFrom (item : Equipment) (classes : List (Key × Class)) (startup day quarter : ℕ) (counting : Counting) : Type 0 where
  pub after : CountsAfter item classes startup day counting
  pub front : (k : ℕ) (e : Key × Class) → k < counting.entered → (slice_index_or classes k e).0.day ≤ judging_day startup quarter day
