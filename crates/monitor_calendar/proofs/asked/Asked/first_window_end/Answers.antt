use Rattle.std.proofs.Common.{◌≡◌, ◌+◌, sym, subst, arith}
use Rattle.std.specs.Prelude.{filter_map}
use Rattle.list_words.specs.Ranges.{until}
use Rattle.ldar_days.specs.Calendar.{month_of}
use Rattle.monitor_calendar.specs.Causes as causes
use Rattle.monitor_calendar.proofs.Cutting.{windows_from_cut, windows_from_begin}
use Rattle.monitor_calendar.proofs.asked.Asked.first_window_end.Goals as goal

pub returns-then-begin-earliest : goal.returns-then-begin-earliest
returns-then-begin-earliest c =
    let asked = c.args.self.now in
    let cut = c.earliest.result in
    let at : c.number-earliest.result ≡ month_of cut = cc in
    let begin : c.number-begin.result ≡ month_of asked.item.now.begin = cc in
    record {
      after = omega (arith, at, begin);
      in_range = omega (arith, begin, c.number-begin.ensures.in_range);
      value = subst (λ m. filter_map (causes.planned asked) (until m (month_of asked.day + 60))
          ≡ filter_map (causes.planned asked) (causes.window_ends asked)) (sym at)
          (windows_from_cut asked cut c.earliest.ensures.value c.earliest.ensures.in_range (omega (arith, at, begin)));
    }

pub returns-else-begin-earliest : goal.returns-else-begin-earliest
returns-else-begin-earliest c =
    let asked = c.args.self.now in
    let cut = c.earliest.result in
    let begin : c.number-begin.result ≡ month_of asked.item.now.begin = cc in
    record {
      after = omega (arith, begin);
      in_range = omega (arith, begin, c.number-begin.ensures.in_range);
      value = subst (λ m. filter_map (causes.planned asked) (until (m + 1) (month_of asked.day + 60))
          ≡ filter_map (causes.planned asked) (causes.window_ends asked)) (sym begin)
          (windows_from_begin asked cut c.earliest.ensures.value c.earliest.ensures.in_range);
    }
