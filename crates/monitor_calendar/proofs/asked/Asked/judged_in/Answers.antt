use Rattle.std.proofs.Common.{min}
use Rattle.monitor_calendar.proofs.Judging.{judged_is}
use Rattle.monitor_calendar.proofs.asked.Asked.judged_in.Goals as goal

pub returns : goal.returns
returns c =
    let asked = c.args.self.now in
    let judged = c.judged_by.ensures in
    record {
      value = judged_is asked c.judged_by.result c.args.class c.judging_day.result (min c.args.days.now.last asked.day) c.judging_day.ensures.value
          c.requires.class judged.serves judged.regime judged.class;
    }
