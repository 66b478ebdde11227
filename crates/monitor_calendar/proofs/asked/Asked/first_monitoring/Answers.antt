use Rattle.std.proofs.Common.{◌≡◌, min, sym, ap, ◌∙◌}
use Rattle.ldar_law.specs.declared.causes.TheConstants.{CAUSE_FIRST}
use Rattle.ldar_law.specs.Duties as law
use Rattle.monitor_calendar.specs.Causes as causes
use Rattle.monitor_calendar.proofs.Judging.{met_by_key}
use Rattle.monitor_calendar.proofs.asked.Asked.first_monitoring.Goals as goal

pub returns : goal.returns
unfolding law.first_monitoring
returns c =
    let asked = c.args.self.now in
    let item = asked.item.now in
    let due = c.first_due-due.result in
    let by : due ≡ law.first_due item = c.first_due-due.ensures.value in
    let day : c.judging_day-judged.result ≡ min due asked.day = c.judging_day-judged.ensures.value in
    let met = law.routine_in asked.events.now item.begin due in
    record {
      value = c.duty.ensures.value
          ∙ met_by_key asked 1 item.begin due (law.is_first_owed item asked.classes.now asked.startup c.judging_day-judged.result) c.routine_in-met.result met
          c.routine_in-met.ensures.value (sym c.is_first_owed.ensures.value ∙ c.if-not-is_first_owed.false)
          ∙ ap (λ j. causes.duty asked CAUSE_FIRST item.begin due (law.is_first_owed item asked.classes.now asked.startup j) met) day
          ∙ ap (λ d. causes.duty asked CAUSE_FIRST item.begin d (law.is_first_owed item asked.classes.now asked.startup (min d asked.day))
          (law.routine_in asked.events.now item.begin d)) by;
    }
