use Rattle.std.proofs.Common.{◌+◌, ◌-◌, ◌/◌, arith}
use Rattle.ldar_days.specs.Calendar.{IsMonth}
use Rattle.ldar_days.specs.Quarters.{first_quarter}
use Rattle.ldar_days.proofs.Quarters.{quarter-days}
use Rattle.ldar_days.proofs.quarter.quarter_of.Goals as goal

pub returns-clause-found : goal.returns-clause-found
returns-clause-found c =
    let first : IsMonth (first_quarter c.args.startup) = (omega arith, omega arith) in
    quarter-days c.args.startup c.args.month ((c.number-month.result - c.number-first.result) / 3 + 1) first (omega arith, omega arith) (omega arith)
    (omega arith)
