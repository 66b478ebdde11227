use Rattle.std.proofs.Common.{◌≡◌, true, false, sym, ◌∙◌}
use Rattle.std.proofs.lemmas.Bool.{false≢true}
use Rattle.ldar_law.specs.Kinds.{is_valve}
use Rattle.ldar_law.specs.Months.{is_quarterly}
use Rattle.monitor_calendar.proofs.Judging.{monthly_unowed, monthly_met}
use Rattle.monitor_calendar.proofs.asked.Asked.monthly_of_other.Goals as goal

pub returns-then-not-is_monthly : goal.returns-then-not-is_monthly
returns-then-not-is_monthly c =
    let asked = c.args.self.now in
    let days = c.args.days.now in
    let judged = c.judged_in-judged.result in
    let says : is_valve asked.item.now.kind ≡ true → false ≡ is_quarterly asked.startup asked.events.now days.month =
    λ valve. absurd (false≢true (sym c.requires.other ∙ valve)) in
    let is = c.judged_in-judged.ensures.value in
    record {
      value = sym (monthly_unowed asked judged days.month days.first days.last days.begins days.ends says is
          (sym c.is_monthly.ensures.value ∙ c.if-not-is_monthly.true));
    }

pub returns : goal.returns
returns c =
    let asked = c.args.self.now in
    let days = c.args.days.now in
    let judged = c.judged_in-judged.result in
    let says : is_valve asked.item.now.kind ≡ true → false ≡ is_quarterly asked.startup asked.events.now days.month =
    λ valve. absurd (false≢true (sym c.requires.other ∙ valve)) in
    let is = c.judged_in-judged.ensures.value in
    record {
      value = c.duty.ensures.value
          ∙ monthly_met asked judged days.month days.first days.last c.routine_in-met.result days.begins days.ends says is
          c.routine_in-met.ensures.value (sym c.is_monthly.ensures.value ∙ c.if-not-is_monthly.false);
    }
