-- What no call of a disk breaks.
use Rattle.std.specs.Prelude.{◌≡◌, ◌≤◌, ℕ}

-- from a disk to its later value: the clock does not fall, the name is the same, and the count of errors does not fall
pub record Keeps {D : Type 0} (clock_of name_of faults_of : D → ℕ) (old new : D) : Type 0 where
  pub time : clock_of old ≤ clock_of new
  pub name : name_of new ≡ name_of old
  pub count : faults_of old ≤ faults_of new
