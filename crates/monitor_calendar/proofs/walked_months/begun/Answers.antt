use Rattle.std.proofs.Common.{◌≡◌, ◌<◌, get_or, sym, subst, ◌∙◌, ap, arith}
use Rattle.std.proofs.lemmas.Bool.{ltb-true}
use Rattle.ldar_days.specs.Calendar.{IsMonth, first_day, month_of}
use Rattle.ldar_law.specs.declared.event.Event.{Event}
use Rattle.ldar_law.specs.Happenings.{is_leak}
use Rattle.monitor_calendar.specs.Walks.{IsOn}
use Rattle.monitor_calendar.proofs.Rising.{before_month}
use Rattle.monitor_calendar.proofs.WalkLemmas.{on_next}
use Rattle.monitor_calendar.proofs.walked_months.begun.Goals as goal

pub behind_last_leak-place-requires-clause-before : goal.behind_last_leak-place-requires-clause-before
behind_last_leak-place-requires-clause-before c =
    let events = c.args.events.now in
    let first = c.args.days.now.first in λ k e lt. ltb-true (get_or events k e).key.day first (c.count_before-count.ensures.value.0 k e (omega arith) lt)

pub with_sound-past-requires : goal.with_sound-past-requires
with_sound-past-requires c =
    let e = c.index-events-k.result in
    record {
      sound = ap (λ (x : Event). is_leak x.what) c.index-events-k.is
          ∙ c.behind_last_leak-place.ensures.no_leak c.loop-k.k e (omega arith) c.loop-k-test.true;
    }

pub loop-k-preserved : goal.loop-k-preserved
loop-k-preserved c =
    let l = c.loop-k in
    let events = c.args.events.now in
    let days = c.args.days.now in
    let e = c.index-events-k.result in
    let is : IsMonth days.month = (days.from, days.to) in
    let soon : (get_or events l.k e).key.day < days.first =
    ltb-true (get_or events l.k e).key.day days.first (c.count_before-count.ensures.value.0 l.k e (omega arith) c.loop-k-test.true) in
    let early : month_of e.key.day < days.month =
    before_month days.month e.key.day is
    (subst (λ (x : Event). x.key.day < first_day days.month) (sym c.index-events-k.is) (omega (arith, soon, days.begins))) in
    record {
      to = omega arith;
      on = on_next events l.k days.month e c.requires.ordered (omega (arith, c.count_before-count.ensures.within, c.loop-k-test.true))
          (sym c.index-events-k.is) l.past c.with_sound-past.result l.invariant.on early c.with_sound-past.ensures.value;
    }

pub returns : goal.returns
returns c =
    let l = c.loop-k in
    let end : l.k ≡ c.count_before-count.result = omega (arith, l.invariant.to, c.loop-k-test.false) in
    record { value = subst (λ n. IsOn l.past c.args.events.now n c.args.days.now.month) end l.invariant.on }
