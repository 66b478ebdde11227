use Rattle.std.proofs.Common.{◌≡◌, ◌+◌, get_or, sym, ap, ◌∙◌, arith}
use Rattle.skip_periods.specs.Seen.{told_in}
use Rattle.skip_periods.proofs.CountingLemmas.{counts_on}
use Rattle.skip_periods.proofs.MarkLemmas.{marked_none, marked_more, marked_all, none_marked}
use Rattle.skip_periods.proofs.SeenLemmas.{mark_is}
use Rattle.skip_periods.proofs.marks.marks_to.Goals as goal

pub loop-past-init : goal.loop-past-init
loop-past-init c =
    let a = c.args in
    record {
      stands = c.at_first-counting.ensures.value 1;
      marked = marked_none a.equipment.now a.classes.now a.startup a.events.now a.delayed.now a.day a.quarter
          c.in_ok-marks.marks.items _ _ c.in_ok-marks.ensures.value c.put_missed.ensures.value c.missed_quarter-missed.ensures.value;
    }

pub loop-past-preserved : goal.loop-past-preserved
loop-past-preserved c =
    let a = c.args in
    let l = c.loop-past in
    let mark = c.mark_told in
    let shown = c.index.result.now in
    let place : c.from-place.result ≡ l.past = c.from-place.ensures in
    let told : shown ≡ told_in a.equipment.now a.classes.now a.startup a.events.now a.day (l.past + 1) =
    c.index.ensures ∙ ap (λ k. get_or l.marks.items k shown) place ∙ l.invariant.marked.told l.past shown (omega arith) (omega arith) in
    record {
      stands = counts_on a.equipment.now a.classes.now a.startup a.day (l.past + 1) c.move_to.new.self (omega arith, omega arith) c.requires.startup
          c.move_to.ensures.value;
      marked =
          marked_more a.equipment.now a.classes.now a.startup a.events.now a.delayed.now a.day a.quarter l.past c.from-place.result l.marks.items
          mark.result place (omega arith) l.invariant.marked
          (mark_is a.equipment.now a.classes.now a.startup a.events.now a.delayed.now a.day (l.past + 1) shown mark.result
          c.move_to.new.self.is_counted c.is_delayed_in-is_delayed.result c.move_to.ensures.counted told
          c.is_delayed_in-is_delayed.ensures.value mark.ensures.leaking mark.ensures.monitored);
    }

pub returns-then-not-is_valve : goal.returns-then-not-is_valve
returns-then-not-is_valve c =
    let a = c.args in
    let none = none_marked a.equipment.now a.classes.now a.startup a.events.now a.delayed.now a.day a.quarter (sym c.if-not-is_valve.ensures.value) in
    record { value = rw (sym none) c.unseen.ensures.value }

pub returns : goal.returns
returns c =
    let a = c.args in
    let l = c.loop-past in
    record {
      value =
          marked_all a.equipment.now a.classes.now a.startup a.events.now a.delayed.now a.day a.quarter l.past l.marks.items (omega arith) l.invariant.marked;
    }
