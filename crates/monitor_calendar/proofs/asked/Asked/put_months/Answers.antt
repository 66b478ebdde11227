use Rattle.std.proofs.Common.{◌≡◌, ◌++◌, OnOk, sym, subst, ◌∙◌}
use Rattle.std.specs.List.{filter_map}
use Rattle.monitor_calendar.specs.Causes as causes
use Rattle.monitor_calendar.proofs.Concerning.{left_so, never_quarterly}
use Rattle.monitor_calendar.proofs.asked.Asked.put_months.Goals as goal

pub returns-then-not-is_valve : goal.returns-then-not-is_valve
returns-then-not-is_valve c =
    let asked = c.args.self.now in
    let months = causes.months_after asked in
    let all = c.args.duties.now.items ++ filter_map (causes.monthly asked) months in
    record {
      put = subst (λ ds. OnOk c.put_monthly.result (c.put_monthly.new.duties.items ≡ ds))
          (sym (left_so (causes.quarterly asked) months all (never_quarterly asked (sym c.is_valve.ensures.value ∙ c.if-not-is_valve.true))))
          c.put_monthly.ensures.put;
    }
