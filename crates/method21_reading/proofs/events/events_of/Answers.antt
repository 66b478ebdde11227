use Rattle.std.proofs.Common.{◌++◌, sym, ap, ◌∙◌, arith}
use Rattle.std.proofs.lemmas.List.{drop_all, append-nil}
use Rattle.ldar_law.specs.Events as law
use Rattle.ldar_law.specs.Force.{limit_on}
use Rattle.method21_reading.proofs.EventLemmas.{events_among_all}
use Rattle.method21_reading.proofs.events.events_of.Goals as goal

pub returns-clause-of_all : goal.returns-clause-of_all
returns-clause-of_all c =
    let a = c.args in
    let events = c.loop-e.events.items in
    let limit = limit_on a.equipment.now a.classes.now in
    let none = ap (λ es. events ++ law.events_with a.equipment.now a.classes.now limit es c.loop-e.left.now)
    (drop_all c.loop-e.e-index a.facts.now (omega (arith, c.loop-e-test.false))) in
    let given = sym (append-nil events) ∙ sym (c.loop-e.invariant.done ∙ none) in
    events_among_all a.equipment.now a.classes.now limit a.facts.now a.fitness.now events given
