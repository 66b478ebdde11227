use Rattle.std.proofs.Common.{◌+◌, arith}
use Rattle.ldar_days.proofs.day.Day.plus_days.Goals as goal

pub returns-clause-value : goal.returns-clause-value
returns-clause-value c =
    let sum = c.until_end.ensures.value (c.args.self + c.min.result) c.days_later.ensures.value in
    omega arith
