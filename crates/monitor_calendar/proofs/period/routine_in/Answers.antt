use Rattle.monitor_calendar.proofs.PeriodLemmas.{from_day}
use Rattle.monitor_calendar.proofs.period.routine_in.Goals as goal

pub returns : goal.returns
returns c =
    let a = c.args in
    let count = c.count_before.result in
    record {
      value = c.routine_behind.ensures.value a.first (from_day a.events.now a.first count c.count_before.ensures.value c.count_before.ensures.within);
    }
