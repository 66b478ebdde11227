use Rattle.std.proofs.Common.{sym, subst, ◌∙◌}
use Rattle.list_words.specs.Order.{Ascends}
use Rattle.fact_kinds.specs.Facts.{is_earlier}
use Rattle.monitor_calendar.proofs.PeriodLemmas.{from_day, to_end}
use Rattle.monitor_calendar.proofs.Rising.{ascends_drop}
use Rattle.monitor_calendar.proofs.period.events_from.Goals as goal

pub returns-clause-value : goal.returns-clause-value
returns-clause-value c =
    let events = c.args.events.now in
    let count = c.count_before.result in
    to_end events count ∙ from_day events c.args.first count c.count_before.ensures.value c.count_before.ensures.within

pub returns-clause-ordered : goal.returns-clause-ordered
returns-clause-ordered c =
    subst (Ascends (λ a b. is_earlier a.key b.key)) (sym (to_end c.args.events.now c.count_before.result))
    (ascends_drop c.count_before.result c.args.events.now c.requires.ordered)
