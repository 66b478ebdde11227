-- The duties of a component by cause, as `ldar_law` defines them, for a question.
use Rattle.std.specs.Prelude.{◌≡◌, ℕ, ◌-◌, ◌%◌, Bool, not, ◌&&◌, ◌||◌, nat_lt, nat_eq, if◌then◌else◌, Option, Some, None, is_none, List}
use Rattle.ldar_days.specs.Calendar.{month_of}
use Rattle.fact_kinds.specs.declared.key.Key.{Key}
use Rattle.ldar_law.specs.declared.duty.Duty.{Duty}
use Rattle.ldar_law.specs.declared.event.Event.{Event}
use Rattle.ldar_law.specs.Duties as law
use Rattle.ldar_law.specs.Force.{class_on, regime_on, is_in_service}
use Rattle.ldar_law.specs.Months.{month_in_quarter}
use Rattle.ldar_law.specs.Standing.{are_valve_rules, are_pump_rules, are_compressor_rules, is_none_designated}
use Rattle.ldar_law.specs.Standing.{is_nde_designated, is_unsafe_designated, is_difficult_designated}
use Rattle.monitor_calendar.specs.declared.asked.Asked.{Asked}
use Rattle.monitor_calendar.specs.declared.asked.Judged.{Judged}

-- ---- the component on a day

-- `judged` is the component on this day
pub record IsOf (asked : Asked) (judged : Judged) (day : ℕ) : Type 0 where
  pub serves : judged.serves ≡ is_in_service asked.item.now day
  pub regime : judged.regime ≡ regime_on asked.item.now asked.classes.now day
  pub class : judged.class ≡ class_on asked.item.now asked.classes.now day

-- the component is monitored yearly: a valve that is difficult to monitor, or a valve, pump or compressor with no detectable emissions
abbrev pub is_yearly_judged : Judged → Bool
is_yearly_judged judged =
    judged.serves
    && ((are_valve_rules judged.regime && is_difficult_designated judged.class.designation)
    || ((are_valve_rules judged.regime || are_pump_rules judged.regime || are_compressor_rules judged.regime) && is_nde_designated judged.class.designation))

-- the component is monitored in the month: a pump, or a valve whose month is not quarterly
abbrev pub is_monthly_judged : Judged → Bool → Bool
is_monthly_judged judged is_quarterly =
    judged.serves && is_none_designated judged.class.designation && (are_pump_rules judged.regime || (are_valve_rules judged.regime && not is_quarterly))

-- the component is a pump without a designation
abbrev pub is_plain_pump : Judged → Bool
is_plain_pump judged = judged.serves && are_pump_rules judged.regime && is_none_designated judged.class.designation

-- ---- duties

module _ (asked : Asked) where
  -- a duty of a cause, if it is owed and belongs on the list
  abbrev pub duty : ℕ → ℕ → ℕ → Bool → Option Event → Option Duty
  duty cause first due owed met =
      law.duty asked.item.now asked.classes.now asked.startup asked.events.now asked.skipped.now asked.day cause first due owed met

  -- an owed duty, from the key of the fact that met it, if it belongs on the list
  abbrev pub duty_met_by : ℕ → ℕ → ℕ → Option Key → Option Duty
  duty_met_by cause first due met =
      if law.is_listed asked.day first due (is_none met)
      then Some (record { component = asked.item.now.component; cause = cause; due = due; met = met })
      else None

  -- 1 first
  abbrev pub first_monitoring : Option Duty
  first_monitoring = law.first_monitoring asked.item.now asked.classes.now asked.startup asked.events.now asked.skipped.now asked.day

  -- 2 monthly, for a month
  abbrev pub monthly : ℕ → Option Duty
  monthly month = law.monthly asked.item.now asked.classes.now asked.startup asked.events.now asked.skipped.now asked.day month

  -- the quarter of a month is skipped
  abbrev pub is_month_skipped : ℕ → Bool
  is_month_skipped month =
      law.is_month_skipped asked.item.now asked.classes.now asked.startup asked.events.now asked.skipped.now asked.day month

  -- for a component judged so, the month is the component's month of its quarter, which is not skipped
  abbrev pub is_quarter_month_judged : Judged → ℕ → Bool → Bool
  is_quarter_month_judged judged month is_quarterly =
      judged.serves && is_none_designated judged.class.designation && are_valve_rules judged.regime && is_quarterly
      && nat_eq judged.class.month (month_in_quarter asked.startup month) && not (is_month_skipped month)

  -- 3 quarterly, for a month
  abbrev pub quarterly : ℕ → Option Duty
  quarterly month = law.quarterly asked.item.now asked.classes.now asked.startup asked.events.now asked.skipped.now asked.day month

  -- 4 yearly, for a calendar year
  abbrev pub yearly : ℕ → Option Duty
  yearly year = law.yearly asked.item.now asked.classes.now asked.startup asked.events.now asked.skipped.now asked.day year

  -- the reading that meets the yearly duty of a component judged so
  abbrev pub yearly_reading_judged : Judged → ℕ → ℕ → Option Event
  yearly_reading_judged judged first due =
      if is_nde_designated judged.class.designation then law.routine_near_background asked.events.now first due
      else law.routine_in asked.events.now first due

  -- for a component judged so, a window of its plan ends with the month
  abbrev pub is_planned_judged : Judged → ℕ → Bool
  is_planned_judged judged month =
      judged.serves && is_unsafe_designated judged.class.designation && (are_valve_rules judged.regime || are_pump_rules judged.regime)
      && nat_lt 0 judged.class.plan && nat_eq ((month - month_of asked.item.now.begin) % judged.class.plan) 0

  -- 5 plan, for the window that ends with a month
  abbrev pub planned : ℕ → Option Duty
  planned month = law.planned asked.item.now asked.classes.now asked.startup asked.events.now asked.skipped.now asked.day month

  -- 6 weekly, for a week
  abbrev pub weekly : ℕ → Option Duty
  weekly week = law.weekly asked.item.now asked.classes.now asked.startup asked.events.now asked.skipped.now asked.day week

  -- the months after the beginning
  abbrev pub months_after : List ℕ
  months_after = law.months_after asked.item.now asked.classes.now asked.startup asked.events.now asked.skipped.now asked.day

  -- the calendar years
  abbrev pub years_after : List ℕ
  years_after = law.years_after asked.item.now asked.classes.now asked.startup asked.events.now asked.skipped.now asked.day

  -- the months that can end a window
  abbrev pub window_ends : List ℕ
  window_ends = law.window_ends asked.item.now asked.classes.now asked.startup asked.events.now asked.skipped.now asked.day

  -- the weeks after the beginning
  abbrev pub weeks_after : List ℕ
  weeks_after = law.weeks_after asked.item.now asked.classes.now asked.startup asked.events.now asked.skipped.now asked.day
