use Rattle.std.proofs.Common.{◌≡◌, arith}
use Rattle.ldar_days.specs.Calendar.{month_of}
use Rattle.monitor_calendar.proofs.asked.Asked.listed_months.Goals as goal

pub returns : goal.returns
returns c =
    let at : c.number-end.result ≡ month_of c.args.self.now.day = cc in
    record {
      value = record {
        first = c.first_month-low.ensures.value;
        end = omega (arith, at);
        within = omega (arith, c.number-end.ensures.in_range);
      };
    }
