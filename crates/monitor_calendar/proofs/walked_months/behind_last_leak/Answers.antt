use Rattle.std.proofs.Common.{◌≡◌, ℕ, ◌+◌, ◌-◌, ◌<◌, get_or, sym, subst, arith}
use Rattle.ldar_days.specs.Calendar.{IsMonth, first_day, month_of}
use Rattle.ldar_law.specs.declared.event.Event.{Event}
use Rattle.monitor_calendar.specs.Walks.{IsOn}
use Rattle.monitor_calendar.proofs.Rising.{before_month, months_before}
use Rattle.monitor_calendar.proofs.WalkLemmas.{on_start, on_behind}
use Rattle.monitor_calendar.proofs.walked_months.behind_last_leak.Goals as goal

pub returns-then-place-eq0 : goal.returns-then-place-eq0
returns-then-place-eq0 c =
    let before = c.behind_leak-place.ensures.value in
    record {
      value = on_start c.none.result c.args.events.now c.args.days.now.month c.none.ensures.value;
      within = omega arith;
      no_leak = λ k e from lt. before.none k e (omega (arith, from)) lt;
    }

pub returns : goal.returns
returns c =
    let events = c.args.events.now in
    let month = c.args.days.now.month in
    let place = c.behind_leak-place.result in
    let e = c.index-events-place.result in
    let before = c.behind_leak-place.ensures.value in
    let is : IsMonth month = (c.args.days.now.from, c.args.days.now.to) in
    let behind : place - 1 + 1 ≡ place = omega arith in
    let days : (k : ℕ) (d : Event) → k < place - 1 + 1 → (get_or events k d).key.day < first_day month =
    λ k d lt. omega (arith, c.requires.before k d (omega (arith, lt, before.within)), c.args.days.now.begins) in
    let early : month_of e.key.day < month =
    before_month month e.key.day is
    (subst (λ (x : Event). x.key.day < first_day month) (sym c.index-events-place.is) (days (place - 1) e (omega arith))) in
    let on : IsOn c.of_leak.result events (place - 1 + 1) month =
    on_behind events (place - 1) month e c.requires.ordered (omega (arith, before.within, c.requires.within))
    (sym c.index-events-place.is) c.of_leak.result
    (months_before events month (place - 1 + 1) is (omega (arith, before.within, c.requires.within)) days) early c.of_leak.ensures.value in
    record {
      value = subst (λ n. IsOn c.of_leak.result events n month) behind on;
      within = before.within;
      no_leak = before.none;
    }
