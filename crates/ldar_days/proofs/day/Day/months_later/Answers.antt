use Rattle.std.proofs.Common.{◌≡◌, ◌∙◌, FitsSigned, w64, pos, arith}
use Rattle.std.proofs.lemmas.Int.{to_z-of_z}
use Rattle.jiff_core.proofs.SignedLemmas.{signed_arith}
use Rattle.ldar_days.specs.Calendar.{IsDay}
use Rattle.ldar_days.proofs.Dates.{date_add-later, can_add-later}
use Rattle.ldar_days.proofs.day.Day.months_later.Goals as goal

pub returns : goal.returns
returns c =
    let day : IsDay c.args.self = (omega arith, omega arith) in
    let fits : FitsSigned w64 c.from.result = omega (arith, signed_arith) in
    let number : c.from.result ≡ pos c.args.months = omega (arith, signed_arith) in
    let only = rw number at (simp to_z-of_z at c.months.ensures) in
    let can = can_add-later c.date.result c.args.self c.args.months c.months.result day c.date.ensures.value (omega arith) only in
    record { value = c.saturating_add.ensures.fits can ∙ date_add-later c.date.result c.args.self c.args.months c.months.result day c.date.ensures.value only }
