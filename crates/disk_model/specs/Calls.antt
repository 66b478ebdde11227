-- The numbered calls of an object in memory.
use Rattle.std.specs.Prelude.{ℕ, List, Contains}
use Rattle.disk_model.specs.Faults.{count_after}

-- the numbers of the calls that fail, and how many calls were made and how many failed
pub record CallCounts : Type 0 where
  pub failing : List ℕ
  pub made : ℕ
  pub faults : ℕ

-- the next call is one of those that fail
abbrev pub IsFailing : CallCounts → Type 0
IsFailing calls = Contains calls.failing calls.made

-- the counts after one more call
abbrev pub after_pass : CallCounts → CallCounts
after_pass calls = record calls { made = count_after calls.made }

-- the counts after one more call, which failed
abbrev pub after_fault : CallCounts → CallCounts
after_fault calls = record calls { made = count_after calls.made; faults = count_after calls.faults }
