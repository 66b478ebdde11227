-- What must be done at a component: nine causes, and the rule for lists (40 CFR 60.482-2a, 60.482-3a, 60.482-4a, 60.482-7a, 60.482-8a).
use Rattle.std.specs.Prelude.{ℕ, ◌+◌, ◌-◌, ◌*◌, ◌/◌, ◌%◌, Bool, false, not, ◌&&◌, ◌||◌, nat_eq, nat_lt, nat_le, min, if◌then◌else◌}
use Rattle.std.specs.Prelude.{Option, Some, None, option_map, is_none, option_to_list, unwrap_or, slice_get, List, ◌++◌, find, filter_map}
use Rattle.std.specs.List.{list_any}
use Rattle.std.specs.Option.{option_map_or}
use Rattle.list_words.specs.Ranges.{from_to}
use Rattle.list_words.specs.Words.{somewhere, each_where}
use Rattle.ldar_days.specs.Calendar.{first_day, last_day, month_of, end_by, week_of, week_first, week_last}
use Rattle.ldar_days.specs.Quarters.{quarter_of}
use Rattle.fact_kinds.specs.declared.class.Class.{Class}
use Rattle.fact_kinds.specs.declared.key.Key.{Key}
use Rattle.ldar_law.specs.declared.causes.TheConstants.{CAUSE_FIRST, CAUSE_MONTHLY, CAUSE_QUARTERLY, CAUSE_YEARLY, CAUSE_PLAN, CAUSE_WEEKLY}
use Rattle.ldar_law.specs.declared.causes.TheConstants.{CAUSE_DRIP, CAUSE_RELEASE, CAUSE_EVIDENCE}
use Rattle.ldar_law.specs.declared.duty.Duty.{Duty}
use Rattle.ldar_law.specs.declared.equipment.Equipment.{Equipment}
use Rattle.ldar_law.specs.declared.event.Event.{Event}
use Rattle.ldar_law.specs.declared.numbers.TheConstants.{EVENT_DAYS, FIRST_DAYS, LISTED_DAYS}
use Rattle.ldar_law.specs.Force.{class_on, is_in_service}
use Rattle.ldar_law.specs.Happenings.{is_counting, is_below, is_routine, is_near_background, is_look, is_dry, has_drips}
use Rattle.ldar_law.specs.Happenings.{is_designating, has_undesignated_drips, is_release, has_evidence, is_evidence_gone, is_from_to}
use Rattle.ldar_law.specs.Months.{is_quarterly, month_in_quarter}
use Rattle.ldar_law.specs.Standing.{is_under_valve_rules, is_under_pump_rules, is_under_compressor_rules, is_under_relief_rules}
use Rattle.ldar_law.specs.Standing.{is_under_heavy_liquid_rules, is_plain, is_nde, is_unsafe, is_difficult}

-- the rule for lists (our own): the period contains the day, or the duty is not met and was due at most 366 days before
abbrev pub is_listed : ℕ → ℕ → ℕ → Bool → Bool
is_listed day first due unmet = nat_le first day && (nat_le day due || (unmet && nat_le day (due + LISTED_DAYS)))

-- the first counting routine reading of a period
abbrev pub routine_in : List Event → ℕ → ℕ → Option Event
routine_in events first due = find (λ e. is_routine e.what && is_from_to first due e) events

-- the first counting routine reading of a period that is less than 500 above the background
abbrev pub routine_near_background : List Event → ℕ → ℕ → Option Event
routine_near_background events first due = find (λ e. is_routine e.what && is_near_background e.what && is_from_to first due e) events

-- the first visual inspection of a period
abbrev pub look_in : List Event → ℕ → ℕ → Option Event
look_in events first due = find (λ e. is_look e.what && is_from_to first due e) events

-- drips repeat earlier ones: since some earlier drips there is a counting reading below the leak definition and no dry visual inspection
-- (our own reading of 40 CFR 60.482-2a(b)(2))
abbrev pub is_repeated : List Event → Bool
is_repeated before = somewhere (λ _ drips since. has_drips drips.what
    && list_any (λ e. is_below e.what) since && not (list_any (λ e. is_dry e.what) since)) before

-- the due day of a first monitoring (40 CFR 60.482-2a(a)(1), 60.482-7a(a)(2))
abbrev pub first_due : Equipment → ℕ
first_due item = end_by (item.begin + FIRST_DAYS)

-- a component, its classes in key order, and the startup of its unit
module _ (item : Equipment) (classes : List (Key × Class)) (startup : ℕ) where
  -- 40 CFR 60.482-2a(a)(1), 60.482-7a(a)(2): on this day, a valve or pump that has no designation when it begins, begins after the unit's
  -- startup and does not replace a leaking one
  abbrev pub is_first_owed : ℕ → Bool
  is_first_owed day =
      is_in_service item day && (is_under_valve_rules item classes day || is_under_pump_rules item classes day) && is_plain item classes item.begin
      && nat_lt startup item.begin && not item.replaces

-- the component's events, the unit's skipped quarters from quarter 1 on, and the day of the list
module _ (item : Equipment) (classes : List (Key × Class)) (startup : ℕ) (events : List Event) (skipped : List Bool) (day : ℕ) where
  -- the duty of a cause from a first day to a due day, with the event that met it, if it is owed and belongs on the list
  abbrev pub duty : ℕ → ℕ → ℕ → Bool → Option Event → Option Duty
  duty cause first due owed met =
      if is_listed day first due (is_none met) && owed
      then Some (record { component = item.component; cause = cause; due = due; met = option_map (λ e. e.key) met })
      else None

  -- 1 first: within thirty days of the beginning
  unfoldable pub first_monitoring : Option Duty
  first_monitoring = duty CAUSE_FIRST item.begin (first_due item)
      (is_first_owed item classes startup (min (first_due item) day))
      (routine_in events item.begin (first_due item))

  -- on this day, a pump, or a valve that is not quarterly in the month, is monitored each month
  abbrev pub is_monthly : ℕ → ℕ → Bool
  is_monthly month judged =
      is_in_service item judged && is_plain item classes judged
      && (is_under_pump_rules item classes judged || (is_under_valve_rules item classes judged && not (is_quarterly startup events month)))

  -- 2 monthly (40 CFR 60.482-2a(a)(1), 60.482-7a(a)(1))
  unfoldable pub monthly : ℕ → Option Duty
  monthly month = duty CAUSE_MONTHLY (first_day month) (last_day month) (is_monthly month (min (last_day month) day))
      (routine_in events (first_day month) (last_day month))

  -- the quarter of the month is skipped
  abbrev pub is_month_skipped : ℕ → Bool
  is_month_skipped month = option_map_or (λ q. unwrap_or (slice_get skipped (q - 1)) false) (quarter_of startup month) false

  -- on this day, a valve that is quarterly in the month is monitored in it: the month is the valve's month of its quarter, which is not
  -- skipped
  abbrev pub is_quarter_month : ℕ → ℕ → Bool
  is_quarter_month month judged =
      is_in_service item judged && is_plain item classes judged && is_under_valve_rules item classes judged && is_quarterly startup events month
      && nat_eq (class_on item classes judged).month (month_in_quarter startup month) && not (is_month_skipped month)

  -- 3 quarterly (40 CFR 60.482-7a(c)(1)(i))
  unfoldable pub quarterly : ℕ → Option Duty
  quarterly month = duty CAUSE_QUARTERLY (first_day month) (last_day month) (is_quarter_month month (min (last_day month) day))
      (routine_in events (first_day month) (last_day month))

  -- on this day, a valve that is difficult to monitor, or a valve, pump or compressor with no detectable emissions
  abbrev pub is_yearly : ℕ → Bool
  is_yearly judged =
      is_in_service item judged
      && ((is_under_valve_rules item classes judged && is_difficult item classes judged)
      || ((is_under_valve_rules item classes judged || is_under_pump_rules item classes judged || is_under_compressor_rules item classes judged)
      && is_nde item classes judged))

  -- the reading that meets the yearly duty; with no detectable emissions, it must be less than 500 above the background
  abbrev pub yearly_reading : ℕ → ℕ → ℕ → Option Event
  yearly_reading judged first due =
      if is_nde item classes judged then routine_near_background events first due else routine_in events first due

  -- 4 yearly (40 CFR 60.482-2a(e), 60.482-3a(i), 60.482-7a(f), (h)), in a calendar year
  unfoldable pub yearly : ℕ → Option Duty
  yearly year = duty CAUSE_YEARLY (first_day (12 * year)) (last_day (12 * year + 11)) (is_yearly (min (last_day (12 * year + 11)) day))
      (yearly_reading (min (last_day (12 * year + 11)) day) (first_day (12 * year)) (last_day (12 * year + 11)))

  -- on this day, a valve or pump that is unsafe to monitor, whose plan has this many months and a window that ends with the month
  abbrev pub is_planned : ℕ → ℕ → ℕ → Bool
  is_planned month plan judged =
      is_in_service item judged && is_unsafe item classes judged && (is_under_valve_rules item classes judged || is_under_pump_rules item classes judged)
      && nat_lt 0 plan && nat_eq ((month - month_of item.begin) % plan) 0

  -- 5 plan (40 CFR 60.482-2a(g)(2), 60.482-7a(g)(2)): once in each window, which has as many months as the plan and ends with the month;
  -- the windows run from the month after the beginning
  abbrev pub planned_by : ℕ → ℕ → Option Duty
  planned_by month plan = duty CAUSE_PLAN (first_day (month + 1 - plan)) (end_by (last_day month))
      (is_planned month plan (min (end_by (last_day month)) day))
      (routine_in events (first_day (month + 1 - plan)) (end_by (last_day month)))

  -- the duty by the plan of the day on which the window is judged
  unfoldable pub planned : ℕ → Option Duty
  planned month = planned_by month (class_on item classes (min (end_by (last_day month)) day)).plan

  -- on this day, a pump without a designation
  abbrev pub is_weekly : ℕ → Bool
  is_weekly judged = is_in_service item judged && is_under_pump_rules item classes judged && is_plain item classes judged

  -- 6 weekly (40 CFR 60.482-2a(a)(2))
  unfoldable pub weekly : ℕ → Option Duty
  weekly week = duty CAUSE_WEEKLY (week_first week) (week_last week) (is_weekly (min (week_last week) day)) (look_in events (week_first week) (week_last week))

  -- five days after an event
  abbrev pub five_days : Event → ℕ
  five_days e = end_by (e.key.day + EVENT_DAYS)

  -- 7 drip (40 CFR 60.482-2a(b)(2)): a pump's drips that are not designated and do not repeat earlier ones
  unfoldable pub drip : List Event → Event → List Event → Option Duty
  drip before e later = duty CAUSE_DRIP e.key.day (five_days e)
      (has_undesignated_drips e.what && is_weekly e.key.day && not (is_repeated before))
      (find (λ x. (is_counting x.what || is_designating x.what) && nat_le x.key.day (five_days e)) later)

  -- 8 release (40 CFR 60.482-4a(b)(2)): a relief device's pressure release
  unfoldable pub release : List Event → Event → List Event → Option Duty
  release before e later = duty CAUSE_RELEASE e.key.day (five_days e)
      (is_release e.what && is_in_service item e.key.day && is_under_relief_rules item classes e.key.day)
      (find (λ x. is_near_background x.what && nat_le x.key.day (five_days e)) later)

  -- 9 evidence (40 CFR 60.482-8a(a)): evidence of a potential leak at a component with the limit of 10,000
  unfoldable pub evidence : List Event → Event → List Event → Option Duty
  evidence before e later = duty CAUSE_EVIDENCE e.key.day (five_days e)
      (has_evidence e.what && is_in_service item e.key.day && is_under_heavy_liquid_rules item classes e.key.day)
      (find (λ x. (is_counting x.what || is_evidence_gone x.what) && nat_le x.key.day (five_days e)) later)

  -- the months after the beginning
  abbrev pub months_after : List ℕ
  months_after = from_to (month_of item.begin + 1) (month_of day)

  -- the calendar years from that of the thirtieth day on (our own rule)
  abbrev pub years_after : List ℕ
  years_after = from_to (month_of (first_due item) / 12) (month_of day / 12)

  -- the months that can end a window that has begun: a plan has at most 60 months
  abbrev pub window_ends : List ℕ
  window_ends = from_to (month_of item.begin + 1) (month_of day + 59)

  -- the weeks after the beginning
  abbrev pub weeks_after : List ℕ
  weeks_after = from_to (week_of item.begin + 1) (week_of day)

  -- all duties of the component that belong on the list, in order of cause, due day and event
  unfoldable pub duties_of : List Duty
  duties_of =
      option_to_list first_monitoring
      ++ (filter_map monthly months_after
      ++ (filter_map quarterly months_after
      ++ (filter_map yearly years_after
      ++ (filter_map planned window_ends
      ++ (filter_map weekly weeks_after
      ++ (each_where drip events
      ++ (each_where release events
      ++ each_where evidence events)))))))
