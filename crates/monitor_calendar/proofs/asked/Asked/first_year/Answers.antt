use Rattle.std.proofs.Common.{◌≡◌, ◌+◌, ◌/◌, sym, subst, arith}
use Rattle.std.specs.Prelude.{filter_map}
use Rattle.list_words.specs.Ranges.{until}
use Rattle.ldar_days.specs.Calendar.{month_of}
use Rattle.ldar_law.specs.Duties.{first_due}
use Rattle.monitor_calendar.specs.Causes as causes
use Rattle.monitor_calendar.proofs.Cutting.{years_from_cut}
use Rattle.monitor_calendar.proofs.asked.Asked.first_year.Goals as goal

pub returns-then-first-earliest : goal.returns-then-first-earliest
returns-then-first-earliest c =
    let asked = c.args.self.now in
    let cut = c.earliest.result in
    let at : c.year-earliest.result ≡ month_of cut / 12 = cc in
    let first : c.year-first.result ≡ month_of (first_due asked.item.now) / 12 = cc in
    record {
      in_range = omega (arith, c.year-earliest.ensures.in_range);
      value = subst (λ y. filter_map (causes.yearly asked) (until y (month_of asked.day / 12 + 1))
          ≡ filter_map (causes.yearly asked) (causes.years_after asked)) (sym at)
          (years_from_cut asked cut c.earliest.ensures.value c.earliest.ensures.in_range (omega (arith, at, first)));
    }

pub returns-else-first-earliest : goal.returns-else-first-earliest
returns-else-first-earliest c =
    let asked = c.args.self.now in
    let first : c.year-first.result ≡ month_of (first_due asked.item.now) / 12 = cc in
    record {
      in_range = omega (arith, c.year-first.ensures.in_range);
      value = rw first;
    }
