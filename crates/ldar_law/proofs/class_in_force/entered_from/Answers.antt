use Rattle.std.proofs.Common.{◌≡◌, ◌<◌, false, nat_le, get_or, subst, arith}
use Rattle.std.proofs.lemmas.Bool.{lt-leb}
use Rattle.std.proofs.lemmas.List.{get_or_default}
use Rattle.fact_kinds.specs.declared.class.Class.{Class}
use Rattle.fact_kinds.specs.declared.key.Key.{Key}
use Rattle.ldar_law.proofs.ClassLemmas.{entered_in_front, entered_to}
use Rattle.ldar_law.proofs.class_in_force.entered_from.Goals as goal

pub returns-else-number-clause-value : goal.returns-else-number-clause-value
returns-else-number-clause-value c =
    let classes = c.args.classes.now in
    let place = c.loop-place.place in
    let shown = c.index-classes-place.result in
    let late : c.args.day < (get_or classes place shown).0.day = omega arith in
    entered_to classes place c.args.day (entered_in_front c.args.day classes c.requires.ordered) c.loop-place.invariant.front
    (λ e within.
    subst (λ (x : Key × Class). nat_le x.0.day c.args.day ≡ false) (get_or_default classes place shown e within)
    (lt-leb (get_or classes place shown).0.day c.args.day late))
