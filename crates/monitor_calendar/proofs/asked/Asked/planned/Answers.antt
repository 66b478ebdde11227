use Rattle.std.proofs.Common.{◌≡◌, ◌+◌, ◌-◌, ◌<◌, true, rules, min, refl, sym, ap, subst, ◌∙◌, arith}
use Rattle.ldar_days.specs.Calendar.{first_day}
use Rattle.ldar_law.specs.declared.causes.TheConstants.{CAUSE_PLAN}
use Rattle.ldar_law.specs.Duties.{routine_in}
use Rattle.monitor_calendar.specs.Causes as causes
use Rattle.monitor_calendar.specs.Causes.{IsOf}
use Rattle.monitor_calendar.proofs.Judging.{met_by_key, planned_by, plan_fits}
use Rattle.monitor_calendar.proofs.Listing.{unowed, not_begun, ends_before}
use Rattle.monitor_calendar.proofs.asked.Asked.planned.Goals as goal

pub returns-then-not-is_planned : goal.returns-then-not-is_planned
returns-then-not-is_planned c =
    let asked = c.args.self.now in
    let month = c.args.month in
    let judged = c.judged-judged.result in
    let due = c.last_day_by-due.result in
    let day : c.judging_day.result ≡ min due asked.day = c.judging_day.ensures.value in
    let is : IsOf asked judged (min due asked.day) =
    subst (IsOf asked judged) day (record {
      serves = c.judged-judged.ensures.serves;
      regime = c.judged-judged.ensures.regime;
      class =
          c.judged-judged.ensures.class;
    }) in
    let owed = causes.is_planned_judged asked judged month in
    let first = first_day (month + 1 - judged.class.plan) in
    let met = routine_in asked.events.now first due in
    let form : causes.planned asked month ≡ causes.duty asked CAUSE_PLAN first due owed met = planned_by asked judged month due c.last_day_by-due.ensures.value is in
    record {
      value = sym (form ∙ unowed asked.item.now asked.classes.now asked.startup asked.events.now asked.skipped.now asked.day 5 first due owed met
          (sym c.is_planned.ensures.value ∙ c.if-not-is_planned.true));
    }

pub overflow_sub-from : goal.overflow_sub-from
overflow_sub-from c =
    let asked = c.args.self.now in
    let fits = plan_fits asked c.judged-judged.result c.args.month c.requires.after (sym c.is_planned.ensures.value ∙ c.if-not-is_planned.false) in
    omega (arith, fits)

-- the window begins after the day
pub returns-then-number-from : goal.returns-then-number-from
returns-then-number-from c =
    let asked = c.args.self.now in
    let month = c.args.month in
    let judged = c.judged-judged.result in
    let due = c.last_day_by-due.result in
    let day : c.judging_day.result ≡ min due asked.day = c.judging_day.ensures.value in
    let is : IsOf asked judged (min due asked.day) =
    subst (IsOf asked judged) day (record {
      serves = c.judged-judged.ensures.serves;
      regime = c.judged-judged.ensures.regime;
      class =
          c.judged-judged.ensures.class;
    }) in
    let owed = causes.is_planned_judged asked judged month in
    let first = first_day (month + 1 - judged.class.plan) in
    let met = routine_in asked.events.now first due in
    let form : causes.planned asked month ≡ causes.duty asked CAUSE_PLAN first due owed met = planned_by asked judged month due c.last_day_by-due.ensures.value is in
    let plan : c.from.result ≡ judged.class.plan = search rules in
    let late : c.month.result < month + 1 - judged.class.plan = omega (arith, plan) in
    record {
      value = sym (form ∙ not_begun asked.item.now asked.classes.now asked.startup asked.events.now asked.skipped.now asked.day 5 first due owed met
          (omega (arith, ends_before c.month.result (month + 1 - judged.class.plan) (omega (arith, c.month.ensures.in_range)) late, c.month.ensures.inside)));
    }

pub at-requires : goal.at-requires
at-requires c =
    let asked = c.args.self.now in
    let fits = plan_fits asked c.judged-judged.result c.args.month c.requires.after (sym c.is_planned.ensures.value ∙ c.if-not-is_planned.false) in
    record { in_range = omega (arith, fits) }

pub returns : goal.returns
returns c =
    let asked = c.args.self.now in
    let month = c.args.month in
    let judged = c.judged-judged.result in
    let due = c.last_day_by-due.result in
    let day : c.judging_day.result ≡ min due asked.day = c.judging_day.ensures.value in
    let is : IsOf asked judged (min due asked.day) =
    subst (IsOf asked judged) day (record {
      serves = c.judged-judged.ensures.serves;
      regime = c.judged-judged.ensures.regime;
      class =
          c.judged-judged.ensures.class;
    }) in
    let owed = causes.is_planned_judged asked judged month in
    let first = first_day (month + 1 - judged.class.plan) in
    let met = routine_in asked.events.now first due in
    let form : causes.planned asked month ≡ causes.duty asked CAUSE_PLAN first due owed met = planned_by asked judged month due c.last_day_by-due.ensures.value is in
    let plan : c.from.result ≡ judged.class.plan = search rules in
    let from : c.first_day-first.result ≡ first = c.first_day-first.ensures.value ∙ ap first_day c.at.ensures.value
    ∙ ap (λ p. first_day (month + 1 - p)) plan in
    record {
      value = c.duty.ensures.value
          ∙ met_by_key asked 5 c.first_day-first.result due true c.routine_in-met.result (routine_in asked.events.now c.first_day-first.result due)
          c.routine_in-met.ensures.value refl
          ∙ ap (λ f. causes.duty asked CAUSE_PLAN f due true (routine_in asked.events.now f due)) from
          ∙ ap (λ o. causes.duty asked CAUSE_PLAN first due o met) (sym c.if-not-is_planned.false ∙ c.is_planned.ensures.value)
          ∙ sym form;
    }
