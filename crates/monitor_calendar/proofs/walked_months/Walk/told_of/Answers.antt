use Rattle.std.proofs.Common.{◌∙◌}
use Rattle.monitor_calendar.proofs.QuarterlyLemmas.{quarterly_at}
use Rattle.monitor_calendar.proofs.WalkLemmas.{rest_from}
use Rattle.monitor_calendar.proofs.walked_months.Walk.told_of.Goals as goal

pub returns : goal.returns
returns c =
    let walk = c.args.self in
    let month = c.args.month in
    record {
      value = λ events is at. record {
        begun = record { within = at.on.within; rest = rest_from events walk.place month is at.on.front at.rest };
        quarterly = c.let_be_quarterly.ensures.value
            ∙ quarterly_at c.args.startup month walk.past at.on.last events walk.place at.on.front at.rest at.on.tells;
      };
    }
