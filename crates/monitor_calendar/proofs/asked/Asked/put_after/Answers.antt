use Rattle.std.proofs.Common.{◌+◌, ◌++◌, List, [], ◌∷◌, subst, take, drop, sym, ap, ◌∙◌, arith}
use Rattle.list_words.specs.Words.{each_from}
use Rattle.list_words.proofs.WordLemmas.{each_done}
use Rattle.monitor_calendar.specs.Following.{after_event, after_by, is_asked_by, TellsFor}
use Rattle.ldar_law.specs.declared.event.Event.{Event}
use Rattle.monitor_calendar.proofs.FollowLemmas.{begins_at, one_event_on, tells_on}
use Rattle.monitor_calendar.proofs.Concerning.{each_left_so, never_after}
use Rattle.monitor_calendar.proofs.asked.Asked.put_after.Goals as goal

pub loop-place-init : goal.loop-place-init
loop-place-init c =
    let asked = c.args.self.now in
    let from = c.first_listed-from in
    record {
      done = ap (λ ds. c.args.duties.now.items ++ ds) (begins_at asked c.args.after from.result from.ensures.within from.ensures.value);
      tells = c.drips_before-past.ensures.value;
      next = record { within = from.ensures.within; none = λ k d low lt. absurd (omega (arith, low, lt)) };
    }

pub loop-place-preserved : goal.loop-place-preserved
loop-place-preserved c =
    let l = c.loop-place in
    let asked = c.args.self.now in
    let events = asked.events.now in
    let e = c.index-self-place.result in
    record {
      done = ap (λ ds. ds ++ each_from (after_event asked c.args.after) (take (l.place + 1) events) (drop (l.place + 1) events)) c.in_ok-put.ensures.put
          ∙ one_event_on asked c.args.after l.past l.place c.next_after-next.result e l.duties.items c.after_event.result asked.events_ordered
          c.loop-place-test.true
          (sym c.index-self-place.is) l.invariant.tells (λ asks. c.next_after-next.ensures.value
          (c.is_asked_by-is_asked.ensures.value ∙ ap (is_asked_by asked c.args.after l.past.repeat) (sym c.index-self-place.is) ∙ asks))
          (c.after_event.ensures.value l.past.repeat c.is_asked_by-is_asked.ensures.value
          ∙ ap (λ x. after_by asked c.args.after l.past.repeat x c.next_after-next.result) (sym c.index-self-place.is))
          ∙ l.invariant.done;
      tells = tells_on asked c.args.after l.past c.told_with-past.result events l.place e c.loop-place-test.true (sym c.index-self-place.is) l.invariant.tells
          (subst (λ x. (front : List Event) → TellsFor c.args.after l.past front → TellsFor c.args.after c.told_with-past.result (front ++ x ∷ []))
          (sym c.index-self-place.is) c.told_with-past.ensures.value);
      next = c.next_after-next.ensures.none;
    }

pub returns : goal.returns
returns c =
    let l = c.loop-place in
    let asked = c.args.self.now in
    record {
      put = each_done (after_event asked c.args.after) l.duties.items _ (take l.place asked.events.now) asked.events.now l.place (omega
          (arith, c.loop-place-test.false)) l.invariant.done;
    }

pub returns-then-not-concerns : goal.returns-then-not-concerns
returns-then-not-concerns c =
    let asked = c.args.self.now in
    record {
      put = sym (each_left_so (after_event asked c.args.after) asked.events.now c.args.duties.now.items
          (never_after asked c.args.after (sym c.concerns.ensures.value ∙ c.if-not-concerns.true)));
    }
