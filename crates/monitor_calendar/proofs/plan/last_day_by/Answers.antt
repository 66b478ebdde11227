use Rattle.std.proofs.Common.{◌≡◌, ◌+◌, ◌≤◌, subst, arith}
use Rattle.ldar_days.specs.Calendar.{first_day}
use Rattle.ldar_days.proofs.Months.{first_day-2100, first_day-past, month_length_bounds}
use Rattle.monitor_calendar.proofs.plan.last_day_by.Goals as goal

pub returns-then-month-gt-LAST_MONTH : goal.returns-then-month-gt-LAST_MONTH
returns-then-month-gt-LAST_MONTH c =
    let month = c.args.month in
    let past : 47_482 ≤ first_day month = first_day-past month (omega arith) in
    let end : c.last_day.result + 1 ≡ first_day 25_200 = subst (λ m. c.last_day.result + 1
    ≡ first_day (m + 1)) c.at.ensures.value c.last_day.ensures.before_next in
    record { value = omega (arith, past, end, first_day-2100, month_length_bounds month) }
