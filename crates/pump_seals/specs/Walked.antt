-- The definitions of a walk, for the leaks of one kind as the code has them.
use Rattle.std.specs.Prelude.{◌≡◌, ℕ, Bool, Option, Some, option_and_then, List, slice_get}
use Rattle.pump_seals.specs.declared.leaks_of_sort.LeaksOfSort.{LeaksOfSort}
use Rattle.pump_seals.specs.declared.leaks_of_sort.Run.{Run}
use Rattle.pump_seals.specs.declared.moment.Moment.{Moment}
use Rattle.pump_seals.specs.declared.seals.SealTag.{SealTag}
use Rattle.pump_seals.specs.Moments.{MomentsRise, is_before}
use Rattle.pump_seals.specs.Repairs.{closing_of}
use Rattle.pump_seals.specs.Runs as runs
use Rattle.pump_seals.specs.Seals.{tag_at, tags_of_sort}

-- the leaks, the attempts and the mends are in order
pub record AreInOrder (sort : LeaksOfSort) : Type 0 where
  pub leaks : MomentsRise is_before sort.leaks.now
  pub attempts : MomentsRise is_before sort.attempts.now
  pub mends : MomentsRise is_before sort.mends.now

abbrev pub first_mend : LeaksOfSort → Moment → Option Moment
first_mend sort leak = runs.first_mend is_before sort.by_attempt sort.leaks.now sort.attempts.now sort.mends.now leak

abbrev pub is_settled_before : LeaksOfSort → Moment → Moment → Bool
is_settled_before sort leak next = runs.is_settled_before is_before sort.by_attempt sort.leaks.now sort.attempts.now sort.mends.now leak next

unfoldable pub runs_on : LeaksOfSort → ℕ → Bool
runs_on sort place = runs.runs_on is_before sort.by_attempt sort.leaks.now sort.attempts.now sort.mends.now place

-- the closing of the tag that is open at the leak at a place
unfoldable pub closing_at : LeaksOfSort → ℕ → Option Moment
closing_at sort place =
    option_and_then (closing_of is_before sort.by_attempt sort.leaks.now sort.attempts.now sort.mends.now) (slice_get sort.leaks.now place)

-- the leak is in the run
abbrev pub IsIn : LeaksOfSort → Run → Moment → Type 0
IsIn sort run leak = runs.IsInRun is_before sort.by_attempt sort.leaks.now sort.attempts.now sort.mends.now run.first run.closed leak

-- the leak at a place, if there is one, is in the run
abbrev pub IsRunAt : LeaksOfSort → Run → ℕ → Type 0
IsRunAt sort run place = (leak : Moment) → slice_get sort.leaks.now place ≡ Some leak → IsIn sort run leak

-- the tag that opens at a leak, and all tags of the kind
abbrev pub tag_of : LeaksOfSort → ℕ → ℕ → Moment → Option SealTag
tag_of sort number day leak = tag_at number sort.by_attempt sort.leaks.now sort.attempts.now sort.mends.now day leak

abbrev pub tags_of : LeaksOfSort → ℕ → ℕ → List SealTag
tags_of sort number day = tags_of_sort number sort.by_attempt sort.leaks.now sort.attempts.now sort.mends.now day
