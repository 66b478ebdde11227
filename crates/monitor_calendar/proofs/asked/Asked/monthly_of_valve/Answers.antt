use Rattle.std.proofs.Common.{◌≡◌, true, false, nat_le, drop, filter, sym, subst, ◌∙◌}
use Rattle.ldar_law.specs.declared.event.Event.{Event}
use Rattle.ldar_law.specs.Kinds.{is_valve}
use Rattle.ldar_law.specs.Months.{is_quarterly}
use Rattle.monitor_calendar.proofs.Judging.{monthly_unowed, monthly_met}
use Rattle.monitor_calendar.proofs.Concerning.{not_monthly}
use Rattle.monitor_calendar.proofs.asked.Asked.monthly_of_valve.Goals as goal

pub returns-then-walked : goal.returns-then-walked
returns-then-walked c = record {
  value = sym (not_monthly c.args.self.now c.args.days.now.month c.requires.valve (sym c.requires.walked.quarterly ∙ c.if-walked.true));
}

pub returns-then-not-is_monthly : goal.returns-then-not-is_monthly
returns-then-not-is_monthly c =
    let asked = c.args.self.now in
    let days = c.args.days.now in
    let judged = c.judged_in-judged.result in
    let says : is_valve asked.item.now.kind ≡ true → false ≡ is_quarterly asked.startup asked.events.now days.month =
    λ valve. sym c.if-walked.false ∙ c.requires.walked.quarterly in
    let is = c.judged_in-judged.ensures.value in
    record {
      value = sym (monthly_unowed asked judged days.month days.first days.last days.begins days.ends says is
          (sym c.is_monthly.ensures.value ∙ c.if-not-is_monthly.true));
    }

pub returns : goal.returns
returns c =
    let asked = c.args.self.now in
    let days = c.args.days.now in
    let judged = c.judged_in-judged.result in
    let says : is_valve asked.item.now.kind ≡ true → false ≡ is_quarterly asked.startup asked.events.now days.month =
    λ valve. sym c.if-walked.false ∙ c.requires.walked.quarterly in
    let is = c.judged_in-judged.ensures.value in
    let walked = c.args.walked.now in
    let rest : drop walked.place asked.events.now ≡ filter (λ (e : Event). nat_le days.first e.key.day) asked.events.now =
    subst (λ n. drop walked.place asked.events.now ≡ filter (λ (e : Event). nat_le n e.key.day) asked.events.now) (sym days.begins)
    c.requires.walked.begun.rest in
    record {
      value = c.duty.ensures.value
          ∙ monthly_met asked judged days.month days.first days.last c.routine_behind-met.result days.begins days.ends says is
          (c.routine_behind-met.ensures.value days.first rest) (sym c.is_monthly.ensures.value ∙ c.if-not-is_monthly.false);
    }
