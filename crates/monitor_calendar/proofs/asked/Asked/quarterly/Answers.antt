use Rattle.std.proofs.Common.{◌≡◌, nat_le, drop, filter, sym, subst, ◌∙◌}
use Rattle.ldar_law.specs.declared.event.Event.{Event}
use Rattle.monitor_calendar.proofs.Judging.{quarterly_unowed, quarterly_met}
use Rattle.monitor_calendar.proofs.Concerning.{not_quarterly}
use Rattle.monitor_calendar.proofs.asked.Asked.quarterly.Goals as goal

pub returns-then-not-is_quarter_month : goal.returns-then-not-is_quarter_month
returns-then-not-is_quarter_month c =
    let asked = c.args.self.now in
    let days = c.args.days.now in
    let judged = c.judged_in-judged.result in
    let walked = c.args.walked.now in
    let is = c.judged_in-judged.ensures.value in
    record {
      value = sym (quarterly_unowed asked judged days.month days.first days.last walked.is_quarterly days.begins days.ends c.requires.walked.quarterly is
          (sym c.is_quarter_month.ensures.value ∙ c.if-not-is_quarter_month.true));
    }

pub returns : goal.returns
returns c =
    let asked = c.args.self.now in
    let days = c.args.days.now in
    let judged = c.judged_in-judged.result in
    let is = c.judged_in-judged.ensures.value in
    let walked = c.args.walked.now in
    let rest : drop walked.place asked.events.now ≡ filter (λ (e : Event). nat_le days.first e.key.day) asked.events.now =
    subst (λ n. drop walked.place asked.events.now ≡ filter (λ (e : Event). nat_le n e.key.day) asked.events.now) (sym days.begins)
    c.requires.walked.begun.rest in
    record {
      value = c.duty.ensures.value
          ∙ quarterly_met asked judged days.month days.first days.last walked.is_quarterly c.routine_behind-met.result days.begins days.ends
          c.requires.walked.quarterly is (c.routine_behind-met.ensures.value days.first rest)
          (sym c.is_quarter_month.ensures.value ∙ c.if-not-is_quarter_month.false);
    }

pub returns-then-not-walked : goal.returns-then-not-walked
returns-then-not-walked c = record {
  value = sym (not_quarterly c.args.self.now c.args.days.now.month (sym c.requires.walked.quarterly ∙ c.if-not-walked.true));
}
