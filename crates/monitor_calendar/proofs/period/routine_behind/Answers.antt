use Rattle.std.proofs.Common.{◌||◌, nat_le, nat_lt, List, drop, filter, find, option_map, sym, ap, ◌∙◌}
use Rattle.ldar_law.specs.declared.event.Event.{Event}
use Rattle.ldar_law.specs.Happenings.{is_routine, is_from_to}
use Rattle.monitor_calendar.specs.Following.{key_by}
use Rattle.monitor_calendar.proofs.PeriodLemmas.{find_among, filter_twice, first_by, key_of_by, to_end}
use Rattle.monitor_calendar.proofs.Rising.{ascends_drop}
use Rattle.monitor_calendar.proofs.period.routine_behind.Goals as goal

pub returns : goal.returns
returns c =
    let a = c.args in
    let events = a.events.now in
    let p = λ (e : Event). is_routine e.what in
    let found = λ (es : List Event). key_by (option_map (λ (e : Event). e.key) (find (λ (e : Event). nat_lt a.last e.key.day || p e) es)) a.last in
    record {
      value = λ first stand.
          c.by_day.ensures.value
          ∙ ap (λ o. key_by o a.last) c.routine_or_later.ensures.value
          ∙ ap found (to_end events a.place)
          ∙ sym (key_of_by (find (λ (e : Event). nat_lt a.last e.key.day || p e) (drop a.place events)) a.last)
          ∙ ap (option_map (λ (e : Event). e.key)) (first_by p a.last (drop a.place events) (ascends_drop a.place events c.requires.ordered)
          ∙ ap (λ es. find p (filter (λ (e : Event). nat_le e.key.day a.last) es)) stand
          ∙ ap (find p) (filter_twice (λ (e : Event). nat_le first e.key.day) (λ (e : Event). nat_le e.key.day a.last) events)
          ∙ find_among p (is_from_to first a.last) events);
    }
