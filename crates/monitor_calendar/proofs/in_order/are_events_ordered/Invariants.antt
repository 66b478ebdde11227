use Rattle.std.proofs.Common.{◌-◌, drop}
use Rattle.list_words.specs.Order.{Ascends}
use Rattle.fact_kinds.specs.Facts.{is_earlier}
use Rattle.monitor_calendar.proofs.in_order.are_events_ordered.Given as goal

abbrev pub invariant-loop-place : goal.invariant-loop-place
invariant-loop-place l = Ascends (λ a b. is_earlier a.key b.key) (drop (l.place - 1) l.events)
