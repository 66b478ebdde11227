use Rattle.std.proofs.Common.{◌≡◌, ◌+◌, sym, ap, ◌∙◌}
use Rattle.ldar_days.specs.Calendar.{end_by}
use Rattle.monitor_calendar.specs.Causes as causes
use Rattle.monitor_calendar.specs.Following.{cause_of, event_by, is_asked_by}
use Rattle.monitor_calendar.proofs.Judging.{met_by_key}
use Rattle.monitor_calendar.proofs.asked.Asked.after_event.Goals as goal

pub returns : goal.returns
returns c =
    let a = c.args in
    let asked = a.self.now in
    let day = a.e.now.key.day in
    let due = c.plus_days-due.result in
    let by : due ≡ end_by (day + 5) = c.plus_days-due.ensures.value in
    let met = event_by asked.events.now a.next due in
    record {
      value = λ is_repeated given.
          let owed = is_asked_by asked a.after is_repeated a.e.now in
          c.duty.ensures.value
          ∙ met_by_key asked c.cause.result day due owed c.key_by-met.result met c.key_by-met.ensures.value (sym given ∙ c.if-not-is_asked.false)
          ∙ ap (λ n. causes.duty asked n day due owed met) c.cause.ensures.value
          ∙ ap (λ d. causes.duty asked (cause_of a.after) day d owed (event_by asked.events.now a.next d)) by;
    }
