-- Findings about a component in each quarter, from quarter 1 on, and its marks for them (40 CFR 60.485a(h)).
use Rattle.std.specs.Prelude.{◌≡◌, ℕ, ◌+◌, ◌-◌, ◌<◌, ◌≤◌, Bool, false, not, ◌&&◌, ◌||◌, Option, List, length, slice_index_or}
use Rattle.std.specs.List.{list_any}
use Rattle.fact_kinds.specs.declared.class.Class.{Class}
use Rattle.fact_kinds.specs.declared.key.Key.{Key}
use Rattle.fact_kinds.specs.Named.{is_numbered}
use Rattle.ldar_law.specs.declared.equipment.Equipment.{Equipment}
use Rattle.ldar_law.specs.declared.event.Event.{Event}
use Rattle.ldar_law.specs.declared.tally.Mark.{Mark}
use Rattle.ldar_law.specs.Happenings.{is_routine, is_routine_leak}
use Rattle.ldar_law.specs.Limits.{regime_of}
use Rattle.ldar_law.specs.Percent.{is_first_missed, is_in_quarter, mark_of}
use Rattle.ldar_law.specs.Standing.{are_valve_rules, is_nde_designated}

-- the component was found leaking in the quarter, and it was monitored in the quarter
abbrev pub seen_in : ℕ → List Event → ℕ → Mark
seen_in startup events quarter = record {
  leaking = list_any (λ e. is_routine_leak e.what && is_in_quarter startup quarter e.key.day) events;
  monitored = list_any (λ e. is_routine e.what && is_in_quarter startup quarter e.key.day) events;
}

-- the finding with one more event
abbrev pub seen_with : ℕ → Event → ℕ → Mark → Mark
seen_with startup e quarter mark = record {
  leaking = mark.leaking || (is_routine_leak e.what && is_in_quarter startup quarter e.key.day);
  monitored = mark.monitored || (is_routine e.what && is_in_quarter startup quarter e.key.day);
}

-- these are the findings in the quarters, from quarter 1 to this one
pub record AreSeen (startup : ℕ) (events : List Event) (quarter : ℕ) (seen : List Mark) : Type 0 where
  pub count : length seen ≡ quarter
  pub each : (k : ℕ) (d : Mark) → k < quarter → slice_index_or seen k d ≡ seen_in startup events (k + 1)

-- the findings after one more event
pub record LooksAt (startup : ℕ) (e : Event) (old new : List Mark) : Type 0 where
  pub count : length new ≡ length old
  pub each : (k : ℕ) (d : Mark) → k < length old → slice_index_or new k d ≡ seen_with startup e (k + 1) (slice_index_or old k d)

-- the finding in a quarter; a missed first monitoring counts as a leak that was found
abbrev pub seen_or_missed : Mark → Bool → Mark
seen_or_missed seen missed = record {
  leaking = seen.leaking || missed;
  monitored = seen.monitored || missed;
}

-- the findings with a missed first monitoring in its quarter
pub record PutsMissed (missed : Option ℕ) (old new : List Mark) : Type 0 where
  pub count : length new ≡ length old
  pub each : (k : ℕ) (d : Mark) → k < length old → slice_index_or new k d ≡ seen_or_missed (slice_index_or old k d) (is_numbered missed (k + 1))

-- the finding in a quarter, with a missed first monitoring
abbrev pub told_in : Equipment → List (Key × Class) → ℕ → List Event → ℕ → ℕ → Mark
told_in item classes startup events day quarter =
    seen_or_missed (seen_in startup events quarter) (is_first_missed item classes startup events false quarter day)

-- the component's mark for a quarter; the list has whether each quarter is delayed, and later quarters are not
abbrev pub mark_for : Equipment → List (Key × Class) → ℕ → List Event → List Bool → ℕ → ℕ → Mark
mark_for item classes startup events delayed day quarter =
    mark_of item classes startup events (slice_index_or delayed (quarter - 1) false) quarter day

-- a component of this class is a valve that is counted
abbrev pub counts_class : Equipment → Class → Bool
counts_class item class = are_valve_rules (regime_of item.kind class.service) && not (is_nde_designated class.designation)

-- the first `past` entries are marks of quarters; the others are findings, with a missed first monitoring
pub record AreMarkedTo (item : Equipment) (classes : List (Key × Class)) (startup : ℕ) (events : List Event) (delayed : List Bool) (day quarter past : ℕ)
    (marks : List Mark) : Type 0 where
  pub count : length marks ≡ quarter
  pub marked : (k : ℕ) (d : Mark) → k < past → slice_index_or marks k d ≡ mark_for item classes startup events delayed day (k + 1)
  pub told : (k : ℕ) (d : Mark) → past ≤ k → k < quarter → slice_index_or marks k d ≡ told_in item classes startup events day (k + 1)
