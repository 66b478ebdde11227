use Rattle.std.proofs.Common.{◌≡◌, ◌+◌, sym, subst, arith}
use Rattle.std.specs.Prelude.{filter_map}
use Rattle.list_words.specs.Ranges.{until}
use Rattle.ldar_days.specs.Calendar.{week_of}
use Rattle.monitor_calendar.specs.Causes as causes
use Rattle.monitor_calendar.proofs.Cutting.{weeks_from_cut}
use Rattle.monitor_calendar.proofs.asked.Asked.first_week.Goals as goal

pub returns-then-begin-earliest : goal.returns-then-begin-earliest
returns-then-begin-earliest c =
    let asked = c.args.self.now in
    let cut = c.earliest.result in
    let at : c.week_of-earliest.result ≡ week_of cut = c.week_of-earliest.ensures.value in
    let begin : c.week_of-begin.result ≡ week_of asked.item.now.begin = c.week_of-begin.ensures.value in
    record {
      in_range = omega (arith, c.week_of-begin.ensures.in_range);
      value = subst (λ w. filter_map (causes.weekly asked) (until w (week_of asked.day + 1))
          ≡ filter_map (causes.weekly asked) (causes.weeks_after asked)) (sym at)
          (weeks_from_cut asked cut c.earliest.ensures.value c.earliest.ensures.in_range (omega (arith, at, begin)));
    }

pub returns-else-begin-earliest : goal.returns-else-begin-earliest
returns-else-begin-earliest c =
    let begin : c.week_of-begin.result ≡ week_of c.args.self.now.item.now.begin = c.week_of-begin.ensures.value in
    record {
      in_range = omega (arith, c.week_of-begin.ensures.in_range);
      value = rw begin;
    }
