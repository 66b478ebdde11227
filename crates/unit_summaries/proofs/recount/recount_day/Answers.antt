use Rattle.std.proofs.Common.{◌≡◌, length, option_and_then, option_map, sym, ap, ◌∙◌, subst, arith}
use Rattle.std.proofs.lemmas.Bool.Decides.{nat_tests}
use Rattle.unit_summaries.specs.Kept.{AreWith, known_from, mark_by}
use Rattle.unit_summaries.proofs.ListLemmas.{numbers_long}
use Rattle.unit_summaries.proofs.recount.recount_day.Goals as goal

pub change_marks-requires-clause-first : goal.change_marks-requires-clause-first
change_marks-requires-clause-first c =
    let k = c.args.kept.now in
    ap length (c.deref.ensures.value ∙ c.in_ok-before.ensures.value)
    ∙ numbers_long (mark_by k.startup k.day (option_and_then (known_from k.day c.args.stops.now) (option_map (λ s. s.now) c.args.first))) k.quarters
    ∙ sym c.requires.long

pub change_marks-requires-clause-second : goal.change_marks-requires-clause-second
change_marks-requires-clause-second c =
    let k = c.args.kept.now in
    ap length (c.deref-2.ensures.value ∙ c.in_ok-after.ensures.value)
    ∙ numbers_long (mark_by k.startup k.day (known_from k.day c.args.stops.now c.args.second.now)) k.quarters ∙ sym c.requires.long

pub change_marks-requires-clause-counted : goal.change_marks-requires-clause-counted
change_marks-requires-clause-counted c =
    let k = c.args.kept.now in
    let here : k.unit ≡ c.args.unit = grind (arith, nat_tests, c.if-kept-unit.false) in
    subst (λ ms. AreWith ms k.tallies.items) (sym (c.deref.ensures.value ∙ c.in_ok-before.ensures.value)) (c.requires.counted here)
