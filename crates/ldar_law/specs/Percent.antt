-- Percent of valves leaking in a quarter (40 CFR 60.483-2a, 60.485a(h)).
use Rattle.std.specs.Prelude.{ℕ, ◌*◌, Bool, true, not, ◌&&◌, ◌||◌, nat_lt, nat_le, min, is_none, List, fold}
use Rattle.std.specs.List.{list_any}
use Rattle.std.specs.Option.{option_map_or}
use Rattle.ldar_days.specs.Calendar.{month_of}
use Rattle.ldar_days.specs.Quarters.{quarter_of, quarter_last}
use Rattle.fact_kinds.specs.declared.class.Class.{Class}
use Rattle.fact_kinds.specs.declared.key.Key.{Key}
use Rattle.fact_kinds.specs.Named.{is_numbered}
use Rattle.ldar_law.specs.declared.equipment.Equipment.{Equipment}
use Rattle.ldar_law.specs.declared.event.Event.{Event}
use Rattle.ldar_law.specs.declared.tag.Tag.{Tag}
use Rattle.ldar_law.specs.declared.tally.Mark.{Mark}
use Rattle.ldar_law.specs.declared.tally.Tally.{Tally}
use Rattle.ldar_law.specs.Duties.{first_due, is_first_owed, routine_in}
use Rattle.ldar_law.specs.Happenings.{is_routine, is_routine_leak}
use Rattle.ldar_law.specs.Standing.{is_under_valve_rules, is_nde}
use Rattle.ldar_law.specs.Tags.{is_delayed}
use Rattle.ldar_law.specs.Tallies.{with_mark}

-- the day is in the quarter
abbrev pub is_in_quarter : ℕ → ℕ → ℕ → Bool
is_in_quarter startup quarter day = is_numbered (quarter_of startup (month_of day)) quarter

-- the tag is open on the day: detected by then, and not closed by then
abbrev pub is_open_on : ℕ → Tag → Bool
is_open_on day tag = nat_le tag.detected day && option_map_or (λ closed. nat_lt day closed) tag.closed true

-- some leak is open on the day and its repair is delayed
abbrev pub has_delay_on : ℕ → List Tag → Bool
has_delay_on day tags = list_any (λ tag. is_open_on day tag && is_delayed tag) tags

-- the day on which a quarter is judged
abbrev pub judging_day : ℕ → ℕ → ℕ → ℕ
judging_day startup quarter day = min (quarter_last startup quarter) day

-- a component with its classes and events, whether its repair is delayed on the quarter's judging day, and the day of the view
module _ (item : Equipment) (classes : List (Key × Class)) (startup : ℕ) (events : List Event) (delayed : Bool) (quarter day : ℕ) where
  -- the component is counted: on the judging day it is under the valve rules and not designated for no detectable emissions
  abbrev pub is_counted : Bool
  is_counted = is_under_valve_rules item classes (judging_day startup quarter day) && not (is_nde item classes (judging_day startup quarter day))

  -- the component has a counting routine reading in the quarter
  abbrev pub is_read : Bool
  is_read = list_any (λ e. is_routine e.what && is_in_quarter startup quarter e.key.day) events

  -- the component has a counting routine reading in the quarter that is a leak
  abbrev pub is_found_leaking : Bool
  is_found_leaking = list_any (λ e. is_routine_leak e.what && is_in_quarter startup quarter e.key.day) events

  -- the component begins in the quarter, and its first monitoring was due before the day and was not done (our own rule)
  abbrev pub is_first_missed : Bool
  is_first_missed =
      is_in_quarter startup quarter item.begin && is_first_owed item classes startup (min (first_due item) day)
      && nat_lt (first_due item) day && is_none (routine_in events item.begin (first_due item))

  -- what the component adds to the counts of the quarter
  unfoldable pub mark_of : Mark
  mark_of = record {
    leaking = is_counted && (is_found_leaking || delayed || is_first_missed);
    monitored = is_counted && (is_read || delayed || is_first_missed);
  }

-- the counts of a quarter; each component of the unit counts once
abbrev pub tally_of : List Mark → Tally
tally_of marks = fold with_mark (record { leaking = 0; monitored = 0 }) marks

-- 40 CFR 60.483-2a(b)(2): at least one valve was monitored, and at most 2 percent of those monitored leak
abbrev pub is_good : Tally → Bool
is_good tally = nat_lt 0 tally.monitored && nat_le (50 * tally.leaking) tally.monitored
