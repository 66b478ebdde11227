use Rattle.std.proofs.Common.{◌≡◌, ◌+◌, ap, ◌∙◌, arith}
use Rattle.ldar_days.specs.Calendar.{IsMonth, first_day}
use Rattle.ldar_days.proofs.Months.{first_day-next, month_bounds, month_length_bounds}
use Rattle.monitor_calendar.proofs.month_days.MonthDays.next.Goals as goal

pub at-requires : goal.at-requires
at-requires c =
    let days = c.args.self.now in
    let next : first_day (days.month + 1) ≡ c.number-2.result + 1 =
    omega (arith, c.number-2.ensures.value, days.ends, first_day-next days.month (omega (arith, days.from)), month_length_bounds days.month) in
    let is : IsMonth (days.month + 1) = (omega (arith, days.from), omega arith) in
    let bounds = month_bounds (days.month + 1) is in
    record { in_range = (omega (arith, next, bounds), omega (arith, next, bounds, month_length_bounds (days.month + 1))) }

pub invariant_of-result-clause-begins : goal.invariant_of-result-clause-begins
invariant_of-result-clause-begins c =
    let days = c.args.self.now in
    let next : c.number-2.result + 1 ≡ first_day (days.month + 1) =
    omega (arith, c.number-2.ensures.value, days.ends, first_day-next days.month (omega (arith, days.from)), month_length_bounds days.month) in
    let month : days.month + 1 ≡ c.at-month.result = omega arith in
    c.at.ensures.value ∙ next ∙ ap first_day month
