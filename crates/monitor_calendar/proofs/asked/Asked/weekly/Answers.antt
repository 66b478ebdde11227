use Rattle.std.proofs.Common.{◌≡◌, min, sym, subst, ◌∙◌, arith}
use Rattle.ldar_days.specs.Calendar.{week_first, week_last}
use Rattle.ldar_law.specs.declared.causes.TheConstants.{CAUSE_WEEKLY}
use Rattle.ldar_law.specs.Duties.{look_in}
use Rattle.monitor_calendar.specs.Causes as causes
use Rattle.monitor_calendar.specs.Causes.{IsOf}
use Rattle.monitor_calendar.proofs.Judging.{met_by_key, weekly_by}
use Rattle.monitor_calendar.proofs.Listing.{unowed}
use Rattle.monitor_calendar.proofs.asked.Asked.weekly.Goals as goal

pub returns-then-not-is_plain_pump : goal.returns-then-not-is_plain_pump
returns-then-not-is_plain_pump c =
    let asked = c.args.self.now in
    let judged = c.judged-judged.result in
    let from : c.at-first.result ≡ week_first c.args.week = c.at-first.ensures.value in
    let to : c.plus_days-due.result ≡ week_last c.args.week = omega (arith, c.plus_days-due.ensures.value, c.at-first.ensures.value, c.requires) in
    let day : c.judging_day.result ≡ min c.plus_days-due.result asked.day = c.judging_day.ensures.value in
    let is : IsOf asked judged (min c.plus_days-due.result asked.day) =
    subst (IsOf asked judged) day (record {
      serves = c.judged-judged.ensures.serves;
      regime = c.judged-judged.ensures.regime;
      class =
          c.judged-judged.ensures.class;
    }) in
    let owed = causes.is_plain_pump judged in
    let met = look_in asked.events.now c.at-first.result c.plus_days-due.result in
    let form : causes.weekly asked c.args.week
    ≡ causes.duty asked CAUSE_WEEKLY c.at-first.result c.plus_days-due.result owed met =
    weekly_by asked judged c.args.week c.at-first.result c.plus_days-due.result from to is in
    record {
      value = sym (form ∙ unowed asked.item.now asked.classes.now asked.startup asked.events.now asked.skipped.now asked.day 6 c.at-first.result
          c.plus_days-due.result owed met
          (sym c.is_plain_pump.ensures.value ∙ c.if-not-is_plain_pump.true));
    }

pub returns : goal.returns
returns c =
    let asked = c.args.self.now in
    let judged = c.judged-judged.result in
    let from : c.at-first.result ≡ week_first c.args.week = c.at-first.ensures.value in
    let to : c.plus_days-due.result ≡ week_last c.args.week = omega (arith, c.plus_days-due.ensures.value, c.at-first.ensures.value, c.requires) in
    let day : c.judging_day.result ≡ min c.plus_days-due.result asked.day = c.judging_day.ensures.value in
    let is : IsOf asked judged (min c.plus_days-due.result asked.day) =
    subst (IsOf asked judged) day (record {
      serves = c.judged-judged.ensures.serves;
      regime = c.judged-judged.ensures.regime;
      class =
          c.judged-judged.ensures.class;
    }) in
    let owed = causes.is_plain_pump judged in
    let met = look_in asked.events.now c.at-first.result c.plus_days-due.result in
    let form : causes.weekly asked c.args.week
    ≡ causes.duty asked CAUSE_WEEKLY c.at-first.result c.plus_days-due.result owed met =
    weekly_by asked judged c.args.week c.at-first.result c.plus_days-due.result from to is in
    record {
      value = c.duty.ensures.value
          ∙ met_by_key asked 6 c.at-first.result c.plus_days-due.result owed c.look_in-met.result met c.look_in-met.ensures.value
          (sym c.is_plain_pump.ensures.value ∙ c.if-not-is_plain_pump.false)
          ∙ sym form;
    }
