use Rattle.std.proofs.Common.{◌≡◌, ◌+◌, sym, subst, arith}
use Rattle.ldar_days.specs.Calendar.{IsMonth, month_of}
use Rattle.ldar_days.proofs.Months.{month_of-month}
use Rattle.monitor_calendar.specs.Covering.{IsFirstListed}
use Rattle.monitor_calendar.proofs.Cutting.{listed_from_cut, listed_from_begin}
use Rattle.monitor_calendar.proofs.asked.Asked.first_month.Goals as goal

pub returns-then-begin-earliest : goal.returns-then-begin-earliest
returns-then-begin-earliest c =
    let asked = c.args.self.now in
    let cut = c.earliest.result in
    let at : c.number-earliest.result ≡ month_of cut = cc in
    let begin : c.number-begin.result ≡ month_of asked.item.now.begin = cc in
    record {
      value = subst (IsFirstListed asked) (sym at)
          (listed_from_cut asked cut c.earliest.ensures.value c.earliest.ensures.in_range (month_of-month cut c.earliest.ensures.in_range) (omega
          (arith, at, begin)));
    }

pub returns-else-begin-earliest : goal.returns-else-begin-earliest
returns-else-begin-earliest c =
    let asked = c.args.self.now in
    let cut = c.earliest.result in
    let at : c.number-earliest.result ≡ month_of cut = cc in
    let begin : c.number-begin.result ≡ month_of asked.item.now.begin = cc in
    record {
      value = subst (λ m. IsFirstListed asked (m + 1)) (sym begin)
          (listed_from_begin asked cut c.earliest.ensures.value c.earliest.ensures.in_range (subst IsMonth begin c.number-begin.ensures.in_range)
          (omega (arith, at, begin)));
    }
