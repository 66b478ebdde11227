-- Counts of quarters that are kept from view to view.
use Rattle.std.specs.Prelude.{◌≡◌, ◌⊎◌, ℕ, ◌<◌, ◌≤◌, true, false, nat_eq, nat_le, Option, Some, None, option_and_then, option_map, List, length, map, filter, filter_map, slice_index_or, take, Contains}
use Rattle.std.specs.List.{AllByRecursion}
use Rattle.list_words.specs.Ranges.{from_to}
use Rattle.fact_kinds.specs.Facts.{Entry}
use Rattle.history_laws.specs.DayLaws.{events_to, if_begun}
use Rattle.ldar_law.specs.declared.delay.Stop.{Stop}
use Rattle.ldar_law.specs.declared.numbers.TheConstants.{LAST_FACT_DAY, MOST_COMPONENTS}
use Rattle.ldar_law.specs.declared.tally.Mark.{Mark}
use Rattle.ldar_law.specs.declared.tally.Tally.{Tally}
use Rattle.ldar_law.specs.Equipment.{members_of}
use Rattle.ldar_law.specs.Tallies.{with_mark}
use Rattle.ldar_law.specs.Units.{Known, known_with, mark_in}
use Rattle.touched_readings.specs.Windows.{AreByDay}
use Rattle.unit_summaries.specs.declared.kept.DayTallies.{DayTallies}
use Rattle.unit_summaries.specs.declared.summary.Summary.{Summary}
use Rattle.unit_summaries.specs.declared.summary.UnitSummary.{UnitSummary}
use Rattle.unit_summaries.specs.Known.{IsOrderly}
use Rattle.unit_summaries.specs.Rows.{Rows, is_fresh, row_of}
use Rattle.unit_summaries.specs.Tallied.{AreTallies, HasRoom}

-- ---- by summaries

-- a component on a day, by its summary and the shutdowns of its process unit; none before it begins
abbrev pub known_from : ℕ → List Stop → Summary → Option Known
known_from day stops s =
    option_map (λ item. known_with item (filter (λ entered. nat_le entered.0.day day) s.classes) (events_to day s.events)
    (record { stops = filter (λ stop. nat_le stop.first day) stops })) (if_begun day s.item)

-- .. by the row of its number, if there is one
abbrev pub known_at : ℕ → List Stop → Rows Summary → ℕ → Option Known
known_at day stops rows number = option_and_then (known_from day stops) (row_of rows number)

-- the components of these numbers on a day, by their rows
abbrev pub known_rows : ℕ → List Stop → Rows Summary → List ℕ → List Known
known_rows day stops rows numbers = filter_map (known_at day stops rows) numbers

-- what a component adds to the counts of a quarter; nothing before it begins
abbrev pub mark_by : ℕ → ℕ → Option Known → ℕ → Mark
mark_by startup day None quarter = record { leaking = false; monitored = false }
mark_by startup day (Some c) quarter = mark_in startup day quarter c

-- .. of each quarter up to one
abbrev pub marks_by : ℕ → ℕ → Option Known → ℕ → List Mark
marks_by startup day c quarter = map (mark_by startup day c) (from_to 1 quarter)

-- ---- what is kept

-- of few components, the counts of the quarters up to one, by the rows of these components
pub record IsCounted (numbers : List ℕ) (components : Rows Summary) (unit : UnitSummary) (d : DayTallies) : Type 0 where
  pub few : length numbers ≤ MOST_COMPONENTS
  pub are : AreTallies d.startup d.day (known_rows d.day unit.of_unit.stops components numbers) d.quarters d.tallies.items

-- if the summary of the process unit is up to date, the counts are those of its members by their summaries as they stand, up to date or not
pub record IsKept (facts : List Entry) (components : Rows Summary) (units : Rows UnitSummary) (d : DayTallies) : Type 0 where
  pub startup : d.startup ≤ LAST_FACT_DAY
  pub long : length d.tallies.items ≡ d.quarters
  pub counted : (unit : UnitSummary) → is_fresh units d.unit ≡ true → row_of units d.unit ≡ Some unit
      → IsCounted (members_of d.unit facts) components unit d

-- the rows of components are in order, and what is kept counts them
pub record AreCounted (facts : List Entry) (components : Rows Summary) (units : Rows UnitSummary) (days : List DayTallies) : Type 0 where
  pub orderly : (n : ℕ) (s : Summary) → row_of components n ≡ Some s → IsOrderly s
  pub kept : AllByRecursion (IsKept facts components units) days

-- the summary of a process unit is up to date, and its shutdowns are by their first days
pub record IsShown (unit : ℕ) (units : Rows UnitSummary) : Type 0 where
  pub fresh : is_fresh units unit ≡ true
  pub stops : (row : UnitSummary) → row_of units unit ≡ Some row → AreByDay (λ stop. stop.first) row.of_unit.stops

-- ---- one component counted anew

-- the mark is counted, beside those of fewer than 60,000 others
pub record IsWith (mark : Mark) (tally : Tally) : Type 0 where
  pub others : Tally
  pub is : with_mark others mark ≡ tally
  pub room : HasRoom others

-- .. at each place
abbrev pub AreWith : List Mark → List Tally → Type 0
AreWith marks tallies = (k : ℕ) (d : Tally) (m : Mark) → k < length tallies → IsWith (slice_index_or marks k m) (slice_index_or tallies k d)

-- at each place the second mark is counted in place of the first
pub record Changes (first second : List Mark) (old new : List Tally) : Type 0 where
  pub count : length new ≡ length old
  pub each : (k : ℕ) (d : Tally) (m : Mark) → k < length old
      → with_mark (slice_index_or new k d) (slice_index_or first k m) ≡ with_mark (slice_index_or old k d) (slice_index_or second k m)

-- on a kept day of the process unit one component is counted as the second in place of the first; other days stay
pub record Recounts (number : ℕ) (stops : List Stop) (first : Option Summary) (second : Summary) (old new : DayTallies) : Type 0 where
  pub unit : new.unit ≡ old.unit
  pub startup : new.startup ≡ old.startup
  pub day : new.day ≡ old.day
  pub quarters : new.quarters ≡ old.quarters
  pub other : nat_eq old.unit number ≡ false → new.tallies.items ≡ old.tallies.items
  pub own : nat_eq old.unit number ≡ true
      → Changes (marks_by old.startup old.day (option_and_then (known_from old.day stops) first) old.quarters)
      (marks_by old.startup old.day (known_from old.day stops second) old.quarters) old.tallies.items new.tallies.items

-- ---- what is found

-- these are the first counts of a kept day
pub record IsFound (unit startup day quarters : ℕ) (kept : List DayTallies) (tallies : List Tally) : Type 0 where
  pub one : DayTallies
  pub held : Contains kept one
  pub of_unit : one.unit ≡ unit
  pub of_startup : one.startup ≡ startup
  pub of_day : one.day ≡ day
  pub within : quarters ≤ length one.tallies.items
  pub value : tallies ≡ take quarters one.tallies.items

-- each of what is kept was kept before, or is the new one
abbrev pub KeepsOnly : DayTallies → List DayTallies → List DayTallies → Type 0
KeepsOnly d old new = (x : DayTallies) → Contains new x → Contains old x ⊎ (x ≡ d)
