use Rattle.std.proofs.Common.{◌≡◌, ◌+◌, ◌*◌, min, sym, subst, ◌∙◌}
use Rattle.ldar_days.specs.Calendar.{first_day, last_day}
use Rattle.ldar_law.specs.declared.causes.TheConstants.{CAUSE_YEARLY}
use Rattle.monitor_calendar.specs.Causes as causes
use Rattle.monitor_calendar.specs.Causes.{IsOf}
use Rattle.monitor_calendar.proofs.Judging.{met_by_key, yearly_by}
use Rattle.monitor_calendar.proofs.Listing.{unowed}
use Rattle.monitor_calendar.proofs.asked.Asked.yearly.Goals as goal

pub returns-then-not-is_yearly : goal.returns-then-not-is_yearly
returns-then-not-is_yearly c =
    let asked = c.args.self.now in
    let judged = c.judged-judged.result in
    let from : c.first_day-first.result ≡ first_day (12 * c.args.year) = cc in
    let to : c.last_day-due.result ≡ last_day (12 * c.args.year + 11) = cc in
    let day : c.judging_day.result ≡ min c.last_day-due.result asked.day = c.judging_day.ensures.value in
    let is : IsOf asked judged (min c.last_day-due.result asked.day) =
    subst (IsOf asked judged) day (record {
      serves = c.judged-judged.ensures.serves;
      regime = c.judged-judged.ensures.regime;
      class =
          c.judged-judged.ensures.class;
    }) in
    let owed = causes.is_yearly_judged judged in
    let met = causes.yearly_reading_judged asked judged c.first_day-first.result c.last_day-due.result in
    let form : causes.yearly asked c.args.year
    ≡ causes.duty asked CAUSE_YEARLY c.first_day-first.result c.last_day-due.result owed met =
    yearly_by asked judged c.args.year c.first_day-first.result c.last_day-due.result from to is in
    record {
      value = sym (form ∙ unowed asked.item.now asked.classes.now asked.startup asked.events.now asked.skipped.now asked.day 4 c.first_day-first.result
          c.last_day-due.result owed met
          (sym c.is_yearly.ensures.value ∙ c.if-not-is_yearly.true));
    }

pub returns : goal.returns
returns c =
    let asked = c.args.self.now in
    let judged = c.judged-judged.result in
    let from : c.first_day-first.result ≡ first_day (12 * c.args.year) = cc in
    let to : c.last_day-due.result ≡ last_day (12 * c.args.year + 11) = cc in
    let day : c.judging_day.result ≡ min c.last_day-due.result asked.day = c.judging_day.ensures.value in
    let is : IsOf asked judged (min c.last_day-due.result asked.day) =
    subst (IsOf asked judged) day (record {
      serves = c.judged-judged.ensures.serves;
      regime = c.judged-judged.ensures.regime;
      class =
          c.judged-judged.ensures.class;
    }) in
    let owed = causes.is_yearly_judged judged in
    let met = causes.yearly_reading_judged asked judged c.first_day-first.result c.last_day-due.result in
    let form : causes.yearly asked c.args.year
    ≡ causes.duty asked CAUSE_YEARLY c.first_day-first.result c.last_day-due.result owed met =
    yearly_by asked judged c.args.year c.first_day-first.result c.last_day-due.result from to is in
    record {
      value = c.duty.ensures.value
          ∙ met_by_key asked 4 c.first_day-first.result c.last_day-due.result owed c.yearly_reading-met.result met c.yearly_reading-met.ensures.value
          (sym c.is_yearly.ensures.value ∙ c.if-not-is_yearly.false)
          ∙ sym form;
    }
