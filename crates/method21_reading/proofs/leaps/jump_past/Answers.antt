use Rattle.std.proofs.Common.{sym, ap, subst, ◌∙◌}
use Rattle.method21_reading.specs.Leaps.{LeadsOver, leap_in}
use Rattle.method21_reading.proofs.LeapLemmas.{two_jumps}
use Rattle.method21_reading.proofs.leaps.jump_past.Goals as goal

pub returns-then-first-saturating_sub-clause-leads : goal.returns-then-first-saturating_sub-clause-leads
returns-then-first-saturating_sub-clause-leads c =
    let a = c.args in
    let leaps = a.leaps.now in
    let there = c.leap_from-farther.ensures.value ∙ ap (λ leap. leap_in leaps leap.jump) c.leap_from-far.ensures.value in
    subst (LeadsOver a.facts.now a.next) (sym (ap (λ leap. leap.jump) there))
    (two_jumps a.facts.now leaps a.next c.requires.sound c.requires.within).1
