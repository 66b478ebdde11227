-- Counts of quarters that stand at their places: those of some components, and with one component more.
use Rattle.std.specs.Prelude.{◌≡◌, ℕ, ◌+◌, ◌-◌, ◌<◌, ◌≤◌, Bool, false, List, length, map, fold, slice_index_or}
use Rattle.ldar_law.specs.declared.numbers.TheConstants.{MOST_COMPONENTS}
use Rattle.ldar_law.specs.declared.tag.Tag.{Tag}
use Rattle.ldar_law.specs.declared.tally.Mark.{Mark}
use Rattle.ldar_law.specs.declared.tally.Tally.{Tally}
use Rattle.ldar_law.specs.Percent.{has_delay_on, judging_day}
use Rattle.ldar_law.specs.Tallies.{with_mark}
use Rattle.ldar_law.specs.Units.{Known, mark_in, tally_in}

-- these are the counts of the quarters from the first to one, of these components
pub record AreTallies (startup day : ℕ) (components : List Known) (quarter : ℕ) (tallies : List Tally) : Type 0 where
  pub count : length tallies ≡ quarter
  pub each : (k : ℕ) (d : Tally) → k < quarter → slice_index_or tallies k d ≡ tally_in startup day components (k + 1)

-- the mark at each place is counted
pub record Counts (marks : List Mark) (old new : List Tally) : Type 0 where
  pub count : length new ≡ length old
  pub each : (k : ℕ) (d : Tally) (m : Mark) → k < length old → slice_index_or new k d ≡ with_mark (slice_index_or old k d) (slice_index_or marks k m)

-- what some components more add to each quarter is counted
pub record CountsMore (startup day : ℕ) (more : List Known) (old new : List Tally) : Type 0 where
  pub count : length new ≡ length old
  pub each : (k : ℕ) (d : Tally) → k < length old
      → slice_index_or new k d ≡ fold with_mark (slice_index_or old k d) (map (mark_in startup day (k + 1)) more)

-- one component more can be counted
pub record HasRoom (tally : Tally) : Type 0 where
  pub leaking : tally.leaking < MOST_COMPONENTS
  pub monitored : tally.monitored < MOST_COMPONENTS

-- .. in each quarter
abbrev pub HaveRoom : List Tally → Type 0
HaveRoom tallies = (k : ℕ) (d : Tally) → k < length tallies → HasRoom (slice_index_or tallies k d)

-- of each quarter up to one it is told whether a repair is delayed on the day on which the quarter is judged; of one that isn't told none is
abbrev pub TellDelays : ℕ → ℕ → ℕ → List Tag → List Bool → Type 0
TellDelays startup quarter day tags delayed =
    (q : ℕ) → 1 ≤ q → q ≤ quarter → slice_index_or delayed (q - 1) false ≡ has_delay_on (judging_day startup q day) tags
