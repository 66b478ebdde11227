use Rattle.std.proofs.Common.{◌≡◌, ◌+◌, arith}
use Rattle.ldar_days.specs.Calendar.{IsDay}
use Rattle.ldar_days.specs.Quarters.{first_quarter}
use Rattle.ldar_days.proofs.Quarters.{first_quarter-month_of, first_quarter-third}
use Rattle.ldar_days.proofs.quarter.first_quarter.Goals as goal

pub returns-clause-third_month : goal.returns-clause-third_month
returns-clause-third_month c =
    let startup : IsDay c.args.startup = (omega arith, omega arith) in
    let later : c.at.result ≡ c.args.startup + 181 = omega arith in
    let month = rw later at c.month.ensures.value in
    let is : c.earlier.result ≡ first_quarter c.args.startup = omega (arith, first_quarter-month_of c.args.startup startup c.requires.in_range) in
    rw is (first_quarter-third c.args.startup startup c.requires.in_range)
