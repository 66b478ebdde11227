-- Pumps with dual mechanical seals (40 CFR 60.482-2a(d)): when a pump is sealed, its seal leaks, their tags, and its duties. It is our own
-- rule what a seal leak is and what settles it.
use Rattle.std.specs.Prelude.{ℕ, ◌+◌, Bool, false, true, ◌&&◌, nat_le, min, if◌then◌else◌, Option, Some, None, option_map, is_none, List, ◌++◌, filter, filter_map, find}
use Rattle.std.specs.Option.{option_map_or}
use Rattle.list_words.specs.Ranges.{from_to}
use Rattle.list_words.specs.Words.{last_such}
use Rattle.ldar_days.specs.Calendar.{end_by, week_of, week_first, week_last}
use Rattle.ldar_law.specs.declared.equipment.Equipment.{Equipment}
use Rattle.ldar_law.specs.declared.event.Event.{Event}
use Rattle.ldar_law.specs.declared.numbers.TheConstants.{EVENT_DAYS, LISTED_DAYS}
use Rattle.ldar_law.specs.Duties.{is_listed}
use Rattle.ldar_law.specs.Force.{is_in_service}
use Rattle.pump_seals.specs.declared.moment.Moment.{Moment}
use Rattle.pump_seals.specs.declared.numbers.TheConstants.{CAUSE_SEAL_WEEK, CAUSE_SEAL_DRIP, SORT_READING, SORT_DRIP, SORT_SENSOR, FIRST_WEEK}
use Rattle.pump_seals.specs.declared.row.Mark.{Mark}
use Rattle.pump_seals.specs.declared.row.SealRow.{SealRow}
use Rattle.pump_seals.specs.declared.seals.SealDuty.{SealDuty}
use Rattle.pump_seals.specs.declared.seals.SealTag.{SealTag}
use Rattle.pump_seals.specs.declared.sign.Sign.{Sign}
use Rattle.pump_seals.specs.declared.sign.Sign.TheVariants.{HighReading, LowReading, DripLeak, SmallDrips, DryLook, Attempt, AnyLook, Answer}
use Rattle.pump_seals.specs.Moments.{is_before}
use Rattle.pump_seals.specs.Repairs.{opens_tag, closing_of}
use Rattle.pump_seals.specs.Signs.{moments_of, marks_of, switches_of, is_on, present_if, gone_if}

-- the last of these marks with this day or an earlier one seals the pump
unfoldable pub is_sealed : List Mark → ℕ → Bool
is_sealed switches day = option_map_or (λ m. is_on m.what) (last_such (λ m. nat_le m.at.day day) switches) false

-- the pump is sealed and in service on a day
abbrev pub is_on_duty : Equipment → List Mark → ℕ → Bool
is_on_duty item switches day = is_in_service item day && is_sealed switches day

-- the moments on days on which the pump is sealed and in service
abbrev pub on_duty : Equipment → List Mark → List Moment → List Moment
on_duty item switches moments = filter (λ m. is_on_duty item switches m.day) moments

-- ---- tags

-- a tag with this closing, if any, is on the list of a day: open, or closed at most 366 days before (our own rule)
abbrev pub is_shown : ℕ → Option Moment → Bool
is_shown day closed = option_map_or (λ m. nat_le day (m.day + LISTED_DAYS)) closed true

-- the tag that opens at a leak of a kind, if there is one and it is on the list of a day. Its first attempt is the first one after the
-- detection, before or after the closing.
abbrev pub tag_at : ℕ → Bool → List Moment → List Moment → List Moment → ℕ → Moment → Option SealTag
tag_at sort by_attempt leaks attempts mends day leak =
    if opens_tag is_before by_attempt leaks attempts mends leak && is_shown day (closing_of is_before by_attempt leaks attempts mends leak)
    then Some (record {
      sort = sort;
      detected = leak.day;
      attempted = option_map (λ m. m.day) (find (is_before leak) attempts);
      closed = option_map (λ m. m.day) (closing_of is_before by_attempt leaks attempts mends leak);
    })
    else None

-- the tags of a kind, in the order of their detection
unfoldable pub tags_of_sort : ℕ → Bool → List Moment → List Moment → List Moment → ℕ → List SealTag
tags_of_sort sort by_attempt leaks attempts mends day = filter_map (tag_at sort by_attempt leaks attempts mends day) leaks

-- a pump's events in key order, and its marks in order, both up to the day of the view
module _ (item : Equipment) (events : List Event) (marks : List Mark) (day : ℕ) where
  -- the tags of a kind whose leaks and mends are events
  abbrev pub event_tags : ℕ → Bool → Sign → Sign → List SealTag
  event_tags sort by_attempt leak mend =
      tags_of_sort sort by_attempt (on_duty item (switches_of marks) (moments_of leak events)) (moments_of Attempt events) (moments_of mend events) day

  -- readings: a counting reading of 2,000 ppm or more is a leak; a counting reading below 2,000 ppm settles it after an attempt
  abbrev pub reading_tags : List SealTag
  reading_tags = event_tags SORT_READING true HighReading LowReading

  -- drips: a visual inspection that is a leak; a dry one settles it
  abbrev pub drip_tags : List SealTag
  drip_tags = event_tags SORT_DRIP false DripLeak DryLook

  -- the barrier sensor: a failure is a leak; the end of the failure settles it
  abbrev pub sensor_tags : List SealTag
  sensor_tags = tags_of_sort SORT_SENSOR false (on_duty item (switches_of marks) (filter_map present_if marks)) (moments_of Attempt events)
      (filter_map gone_if marks) day

  -- all tags, by kind and detection
  unfoldable pub seal_tags : List SealTag
  seal_tags = reading_tags ++ (drip_tags ++ sensor_tags)

-- ---- duties

-- the day of a moment, if it is at most the given day
abbrev pub by_day : ℕ → Option Moment → Option ℕ
by_day last None = None
by_day last (Some m) = if nat_le m.day last then Some m.day else None

-- a duty of a cause from a first day to a due day, with the day on which it was met, if it is owed and on the list
abbrev pub duty : ℕ → ℕ → ℕ → ℕ → Bool → Option ℕ → Option SealDuty
duty day cause first due owed met =
    if owed && is_listed day first due (is_none met) then Some (record { cause = cause; due = due; met = met }) else None

-- the weekly visual inspection, judged on the Sunday of the week or on the day of the list; the first one in the week meets it
abbrev pub weekly : Equipment → List Mark → List Moment → ℕ → ℕ → Option SealDuty
weekly item switches looks day week =
    duty day CAUSE_SEAL_WEEK (week_first week) (week_last week) (is_on_duty item switches (min (week_last week) day))
    (by_day (week_last week) (find (λ m. nat_le (week_first week) m.day) looks))

-- the duty after drips that are no leak: within five days a counting reading, or a visual inspection that is a leak
abbrev pub after_drips : List Moment → ℕ → Moment → Option SealDuty
after_drips answers day drips =
    duty day CAUSE_SEAL_DRIP drips.day (end_by (drips.day + EVENT_DAYS)) true
    (by_day (end_by (drips.day + EVENT_DAYS)) (find (is_before drips) answers))

-- the weeks of the calendar that have begun by a day
abbrev pub weeks_to : ℕ → List ℕ
weeks_to day = from_to FIRST_WEEK (week_of day)

module _ (item : Equipment) (events : List Event) (marks : List Mark) (day : ℕ) where
  abbrev pub week_duties : List SealDuty
  week_duties = filter_map (weekly item (switches_of marks) (moments_of AnyLook events) day) (weeks_to day)

  abbrev pub drip_duties : List SealDuty
  drip_duties = filter_map (after_drips (moments_of Answer events) day) (on_duty item (switches_of marks) (moments_of SmallDrips events))

  -- all duties, by cause, due day and moment
  unfoldable pub seal_duties : List SealDuty
  seal_duties = week_duties ++ drip_duties

-- the duties and tags of a pump, from its events and the rows of a file
abbrev pub duties_by_rows : Equipment → List Event → List SealRow → ℕ → List SealDuty
duties_by_rows item events rows day = seal_duties item events (marks_of item.component day rows) day

abbrev pub tags_by_rows : Equipment → List Event → List SealRow → ℕ → List SealTag
tags_by_rows item events rows day = seal_tags item events (marks_of item.component day rows) day
