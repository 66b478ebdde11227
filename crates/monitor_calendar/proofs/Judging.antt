-- What a component owes, from the component on the judging day.
use Rattle.std.specs.Prelude.{if◌then◌else◌}
use Rattle.std.proofs.Common.{◌≡◌, ℕ, ◌+◌, ◌-◌, ◌*◌, ◌%◌, ◌<◌, ◌≤◌, Bool, true, false, not, Option, Some, None, option_map}
use Rattle.std.proofs.Common.{◌&&◌, ◌||◌, nat_lt, nat_eq, min, refl, sym, ap, ◌∙◌, inl, inr, mod-eq_of_lt, arith}
use Rattle.std.proofs.lemmas.Bool.{cases_Bool, and_parts, eqb-true, cases_lt}
use Rattle.ldar_days.specs.Calendar.{first_day, last_day, end_by, month_of, week_first, week_last}
use Rattle.fact_kinds.specs.declared.class.Class.{Class}
use Rattle.fact_kinds.specs.declared.key.Key.{Key}
use Rattle.ldar_law.specs.declared.causes.TheConstants.{CAUSE_MONTHLY, CAUSE_QUARTERLY, CAUSE_YEARLY, CAUSE_PLAN, CAUSE_WEEKLY}
use Rattle.ldar_law.specs.declared.event.Event.{Event}
use Rattle.ldar_law.specs.Duties as law
use Rattle.ldar_law.specs.Force.{class_on, is_in_service}
use Rattle.ldar_law.specs.Kinds.{is_valve}
use Rattle.ldar_law.specs.Limits.{regime_of}
use Rattle.ldar_law.specs.Months.{is_quarterly}
use Rattle.ldar_law.specs.Standing.{are_valve_rules, are_pump_rules, is_none_designated, is_unsafe_designated}
use Rattle.ldar_law.proofs.KindLemmas.{no_valve_rules}
use Rattle.monitor_calendar.specs.Causes as causes
use Rattle.monitor_calendar.specs.Causes.{IsOf}
use Rattle.monitor_calendar.specs.declared.asked.Asked.{Asked}
use Rattle.monitor_calendar.specs.declared.asked.Judged.{Judged}
use Rattle.monitor_calendar.proofs.Listing.{unowed}

-- a positive multiple of the window's length is at least that length
one_window : (n p : ℕ) → 0 < n → n % p ≡ 0 → p ≤ n
one_window n p some whole =
    elim (cases_lt n p) [
      | inl short ↦ let small : n % p ≡ n = mod-eq_of_lt short in absurd (omega (arith, small))
      | inr long ↦ long
    ]

-- a component that is not under the rules for valves is monitored in quarterly months as in others
either_month : (judged : Judged) (a b : Bool) → are_valve_rules judged.regime ≡ false → causes.is_monthly_judged judged a ≡ causes.is_monthly_judged judged b
either_month judged a b none =
    ap (λ v. judged.serves && is_none_designated judged.class.designation && (are_pump_rules judged.regime || (v && not a))) none
    ∙ sym (ap (λ v. judged.serves && is_none_designated judged.class.designation && (are_pump_rules judged.regime || (v && not b))) none)

-- a conjunction with true
and_true : (a : Bool) → (a && true) ≡ a
and_true true = refl
and_true false = refl

module _ (asked : Asked) where
  -- an owed duty, from the event that met it or from its key
  by_its_key : (cause first due : ℕ) (found : Option Event) →
      causes.duty_met_by asked cause first due (option_map (λ e. e.key) found) ≡ causes.duty asked cause first due true found
  by_its_key cause first due None =
      ap (λ b. if b then Some (record { component = asked.item.now.component; cause = cause; due = due; met = None }) else None)
      (sym (and_true (law.is_listed asked.day first due true)))
  by_its_key cause first due (Some e) =
      ap (λ b. if b then Some (record { component = asked.item.now.component; cause = cause; due = due; met = Some e.key }) else None)
      (sym (and_true (law.is_listed asked.day first due false)))

  -- a duty, if it is owed
  pub met_by_key : (cause first due : ℕ) (owed : Bool) (met : Option Key) (found : Option Event) → met ≡ option_map (λ e. e.key) found → owed ≡ true →
      causes.duty_met_by asked cause first due met ≡ causes.duty asked cause first due owed found
  met_by_key cause first due owed met found is so =
      ap (causes.duty_met_by asked cause first due) is ∙ by_its_key cause first due found ∙ ap (λ o. causes.duty asked cause first due o found) (sym so)

  -- the judged component is that of a day if its class is the one in force then
  pub judged_is : (judged : Judged) (class : Class) (judging day : ℕ) → judging ≡ day → class ≡ class_on asked.item.now asked.classes.now day →
      judged.serves ≡ is_in_service asked.item.now judging → judged.regime ≡ regime_of asked.item.now.kind class.service → judged.class ≡ class →
      IsOf asked judged day
  judged_is judged class judging day at in_force serves regime same = record {
    serves = serves ∙ ap (is_in_service asked.item.now) at;
    regime = regime ∙ ap (λ k. regime_of asked.item.now.kind k.service) in_force;
    class = same ∙ in_force;
  }

  -- if a window ends, its plan began after the component's beginning
  pub plan_fits : (judged : Judged) (month : ℕ) → month_of asked.item.now.begin < month → causes.is_planned_judged asked judged month ≡ true →
      judged.class.plan + month_of asked.item.now.begin ≤ month
  plan_fits judged month after planned =
      let whole = (and_parts (judged.serves && is_unsafe_designated judged.class.designation &&
      (are_valve_rules judged.regime || are_pump_rules judged.regime) && nat_lt 0 judged.class.plan)
      (nat_eq ((month - month_of asked.item.now.begin) % judged.class.plan) 0) planned).1 in
      omega (
        arith,
        one_window (month - month_of asked.item.now.begin) judged.class.plan (omega (arith, after)) (eqb-true
            ((month - month_of asked.item.now.begin) % judged.class.plan) 0 whole),
      )

  -- the monthly duty, from the component on the judging day
  monthly_exact : (judged : Judged) (month first due : ℕ) → first ≡ first_day month → due ≡ last_day month → IsOf asked judged (min due asked.day) →
      causes.monthly asked month
      ≡ causes.duty asked CAUSE_MONTHLY first due (causes.is_monthly_judged judged (is_quarterly asked.startup asked.events.now month))
      (law.routine_in asked.events.now first due)
  unfolding law.monthly
  monthly_exact judged month first due from to is = rw (is.serves, is.regime, is.class, from, to) refl

  -- whether the month is quarterly matters only for a valve
  monthly_alike : (judged : Judged) (month due : ℕ) (quarterly : Bool) → IsOf asked judged (min due asked.day) →
      (is_valve asked.item.now.kind ≡ true → quarterly ≡ is_quarterly asked.startup asked.events.now month) →
      causes.is_monthly_judged judged (is_quarterly asked.startup asked.events.now month) ≡ causes.is_monthly_judged judged quarterly
  monthly_alike judged month due quarterly is says =
      elim (cases_Bool (is_valve asked.item.now.kind)) [
        | inl valve ↦ ap (causes.is_monthly_judged judged) (sym (says valve))
        | inr other ↦
            either_month judged (is_quarterly asked.startup asked.events.now month) quarterly
            (ap are_valve_rules is.regime ∙ no_valve_rules asked.item.now.kind (class_on asked.item.now asked.classes.now (min due asked.day)).service other)
      ]

  pub monthly_by : (judged : Judged) (month first due : ℕ) (quarterly : Bool) → first ≡ first_day month → due ≡ last_day month →
      (is_valve asked.item.now.kind ≡ true → quarterly ≡ is_quarterly asked.startup asked.events.now month) →
      IsOf asked judged (min due asked.day) →
      causes.monthly asked month ≡ causes.duty asked CAUSE_MONTHLY first due (causes.is_monthly_judged judged quarterly) (law.routine_in asked.events.now first due)
  monthly_by judged month first due quarterly from to says is =
      monthly_exact judged month first due from to is
      ∙ ap (λ owed. causes.duty asked CAUSE_MONTHLY first due owed (law.routine_in asked.events.now first due)) (monthly_alike judged month due quarterly is says)

  -- no monthly duty is owed for a month
  pub monthly_unowed : (judged : Judged) (month first due : ℕ) → first ≡ first_day month → due ≡ last_day month →
      (is_valve asked.item.now.kind ≡ true → false ≡ is_quarterly asked.startup asked.events.now month) → IsOf asked judged (min due asked.day) →
      causes.is_monthly_judged judged false ≡ false → causes.monthly asked month ≡ None
  monthly_unowed judged month first due from to says is none =
      monthly_by judged month first due false from to says is
      ∙ unowed asked.item.now asked.classes.now asked.startup asked.events.now asked.skipped.now asked.day 2 first due
      (causes.is_monthly_judged judged false) (law.routine_in asked.events.now first due) none

  -- a monthly duty is owed for a month, with the key of the fact that met it
  pub monthly_met : (judged : Judged) (month first due : ℕ) (met : Option Key) → first ≡ first_day month → due ≡ last_day month →
      (is_valve asked.item.now.kind ≡ true → false ≡ is_quarterly asked.startup asked.events.now month) → IsOf asked judged (min due asked.day) →
      met ≡ option_map (λ e. e.key) (law.routine_in asked.events.now first due) → causes.is_monthly_judged judged false ≡ true →
      causes.duty_met_by asked 2 first due met ≡ causes.monthly asked month
  monthly_met judged month first due met from to says is found owed =
      met_by_key 2 first due (causes.is_monthly_judged judged false) met (law.routine_in asked.events.now first due) found owed
      ∙ sym (monthly_by judged month first due false from to says is)

  -- the quarterly duty
  pub quarterly_by : (judged : Judged) (month first due : ℕ) (quarterly : Bool) → first ≡ first_day month → due ≡ last_day month → quarterly
      ≡ is_quarterly asked.startup asked.events.now month →
      IsOf asked judged (min due asked.day) →
      causes.quarterly asked month ≡ causes.duty asked CAUSE_QUARTERLY first due (causes.is_quarter_month_judged asked judged month quarterly)
      (law.routine_in asked.events.now first due)
  unfolding law.quarterly
  quarterly_by judged month first due quarterly from to same is = rw (is.serves, is.regime, is.class, same, from, to) refl

  -- no quarterly duty is owed for a month
  pub quarterly_unowed : (judged : Judged) (month first due : ℕ) (quarterly : Bool) → first ≡ first_day month → due ≡ last_day month →
      quarterly ≡ is_quarterly asked.startup asked.events.now month → IsOf asked judged (min due asked.day) →
      causes.is_quarter_month_judged asked judged month quarterly ≡ false → causes.quarterly asked month ≡ None
  quarterly_unowed judged month first due quarterly from to same is none =
      quarterly_by judged month first due quarterly from to same is
      ∙ unowed asked.item.now asked.classes.now asked.startup asked.events.now asked.skipped.now asked.day 3 first due
      (causes.is_quarter_month_judged asked judged month quarterly) (law.routine_in asked.events.now first due) none

  -- a quarterly duty is owed for a month, with the key of the fact that met it
  pub quarterly_met : (judged : Judged) (month first due : ℕ) (quarterly : Bool) (met : Option Key) → first ≡ first_day month → due ≡ last_day month →
      quarterly ≡ is_quarterly asked.startup asked.events.now month → IsOf asked judged (min due asked.day) →
      met ≡ option_map (λ e. e.key) (law.routine_in asked.events.now first due) → causes.is_quarter_month_judged asked judged month quarterly ≡ true →
      causes.duty_met_by asked 3 first due met ≡ causes.quarterly asked month
  quarterly_met judged month first due quarterly met from to same is found owed =
      met_by_key 3 first due (causes.is_quarter_month_judged asked judged month quarterly) met (law.routine_in asked.events.now first due) found owed
      ∙ sym (quarterly_by judged month first due quarterly from to same is)

  -- the yearly duty
  pub yearly_by : (judged : Judged) (year first due : ℕ) → first ≡ first_day (12 * year) → due ≡ last_day (12 * year + 11) →
      IsOf asked judged (min due asked.day) →
      causes.yearly asked year ≡ causes.duty asked CAUSE_YEARLY first due (causes.is_yearly_judged judged) (causes.yearly_reading_judged asked judged first due)
  unfolding law.yearly
  yearly_by judged year first due from to is = rw (is.serves, is.regime, is.class, from, to) refl

  -- the duty by a plan
  pub planned_by : (judged : Judged) (month due : ℕ) → due ≡ end_by (last_day month) → IsOf asked judged (min due asked.day) →
      causes.planned asked month ≡ causes.duty asked CAUSE_PLAN (first_day (month + 1 - judged.class.plan)) due (causes.is_planned_judged asked judged month)
      (law.routine_in asked.events.now (first_day (month + 1 - judged.class.plan)) due)
  unfolding law.planned
  planned_by judged month due to is = rw (is.serves, is.regime, is.class, to) refl

  -- the weekly duty
  pub weekly_by : (judged : Judged) (week first due : ℕ) → first ≡ week_first week → due ≡ week_last week → IsOf asked judged (min due asked.day) →
      causes.weekly asked week ≡ causes.duty asked CAUSE_WEEKLY first due (causes.is_plain_pump judged) (law.look_in asked.events.now first due)
  unfolding law.weekly
  weekly_by judged week first due from to is = rw (is.serves, is.regime, is.class, from, to) refl
