use Rattle.std.proofs.Common.{◌<◌, ◌≤◌, length, sym, ap, subst, ◌∙◌, arith}
use Rattle.std.proofs.lemmas.List.{length-drop}
use Rattle.ldar_days.specs.Calendar.{IsDay, month_of}
use Rattle.monitor_calendar.proofs.PeriodLemmas.{to_end}
use Rattle.monitor_calendar.proofs.Rising.{before_first, from_first}
use Rattle.monitor_calendar.proofs.WalkLemmas.{behind_at, on_next, at_event, at_end}
use Rattle.monitor_calendar.proofs.walked_months.walked_to.Goals as goal

pub returns-then-first-day : goal.returns-then-first-day
returns-then-first-day c =
    let l = c.loop-e in
    let e = c.e-item.result in
    let events = c.args.events.now in
    let here = behind_at events c.args.walk.place l.e-index l.place e l.invariant.at c.loop-e-test.true in
    let late : c.args.days.now.month ≤ month_of e.key.day = from_first c.args.days.now.month e.key.day
    (subst IsDay c.number-day.ensures.value c.number-day.ensures.in_range) (omega (arith, c.args.days.now.begins)) in
    record {
      value = at_event events l.place c.args.days.now.month e c.requires.ordered here.0 (here.1 ∙ sym c.e-item.is) l.past l.invariant.on late;
    }

pub loop-e-preserved : goal.loop-e-preserved
loop-e-preserved c =
    let l = c.loop-e in
    let e = c.e-item.result in
    let events = c.args.events.now in
    let here = behind_at events c.args.walk.place l.e-index l.place e l.invariant.at c.loop-e-test.true in
    let early : month_of e.key.day < c.args.days.now.month = before_first c.args.days.now.month e.key.day
    (subst IsDay c.number-day.ensures.value c.number-day.ensures.in_range) (omega (arith, c.args.days.now.from)) (omega (arith, c.args.days.now.begins)) in
    record {
      at = omega arith;
      on = on_next events l.place c.args.days.now.month e c.requires.ordered here.0 (here.1 ∙ sym c.e-item.is) l.past c.with-past.result l.invariant.on early
          c.with-past.ensures.value;
    }

pub returns : goal.returns
returns c =
    let l = c.loop-e in
    let events = c.args.events.now in
    let from = c.args.walk.place in
    let end : length events ≤ l.place = omega (arith, l.invariant.at, c.loop-e-test.false, ap length (to_end events from), length-drop from events) in
    record { value = at_end l.past events l.place c.args.days.now.month end l.invariant.on }
