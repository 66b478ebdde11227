use Rattle.std.proofs.Common.{◌≡◌, [], ◌∷◌, ◌++◌, None, sym, subst, arith}
use Rattle.ldar_days.specs.Calendar.{month_of}
use Rattle.monitor_calendar.specs.Behind.{Tells}
use Rattle.monitor_calendar.proofs.PastLemmas.{told_leak}
use Rattle.monitor_calendar.proofs.past_months.PastMonths.of_leak.Goals as goal

pub returns : goal.returns
returns c =
    let e = c.args.e.now in
    let at : c.number.result ≡ month_of e.key.day = omega arith in
    record {
      value = λ front all.
          subst (λ m. Tells (record { leak = m; below = 0; pair = None }) (month_of e.key.day) (front ++ e ∷ [])) (sym at)
          (told_leak front e all c.requires.leak);
    }
