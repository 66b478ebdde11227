use Rattle.std.proofs.Common.{◌≤◌, arith}
use Rattle.list_words.proofs.Members.{all_weaker}
use Rattle.ldar_days.specs.Calendar.{month_of}
use Rattle.monitor_calendar.proofs.past_months.PastMonths.with.Goals as goal

pub returns-then-is_leak : goal.returns-then-is_leak
returns-then-is_leak c =
    let month = month_of c.args.e.now.key.day in
    record {
      value = λ last front tells le.
          c.of_leak.ensures.value front
          (all_weaker (λ x. month_of x.key.day ≤ last) (λ x. month_of x.key.day ≤ month) (λ x by. omega (arith, by, le)) front tells.up_to);
    }
