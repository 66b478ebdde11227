use Rattle.std.proofs.Common.{◌≡◌, ◌<◌, Option, Some, length, option_and_then, option_map, get_or, set, sym, ap, ◌∙◌, subst, inl, inr, arith}
use Rattle.std.proofs.lemmas.Bool.{cases_eq}
use Rattle.std.proofs.lemmas.List.{get_or-set_same, get_or-set_other, length-set}
use Rattle.fact_store.specs.Kept.{facts_in}
use Rattle.unit_summaries.specs.declared.summary.Summary.{Summary}
use Rattle.unit_summaries.specs.Kept.{AreWith, IsKept, Recounts, known_from, marks_by}
use Rattle.unit_summaries.specs.Rows.{row_of}
use Rattle.unit_summaries.proofs.KeptLemmas.{all_from_places, counted_none, kept_at, kept_recounted, kept_with, ok_of, rows_orderly}
use Rattle.unit_summaries.proofs.recount.recount.Goals as goal

pub returns-in_default : goal.returns-in_default
returns-in_default c = record {
  counted = λ after puts.
      counted_none (facts_in c.args.lists.now.store.now) c.args.components.now after c.args.units.now c.args.kept.now.items c.clear.new.self.items
      c.args.number c.args.summary.now c.requires.counted puts c.requires.orderly c.clear.ensures.items;
}

pub recount_day-done-requires-clause-counted : goal.recount_day-done-requires-clause-counted
recount_day-done-requires-clause-counted c = λ is.
    let a = c.args in
    let facts = facts_in a.lists.now.store.now in
    let l = c.loop-place in
    let d = c.index_mut.result.now in
    let row = c.in-Some.row.now in
    let row_is : row_of a.units.now a.unit ≡ Some row = sym (c.in-Some.ensures.value ∙ ap (row_of a.units.now) c.from.ensures) in
    let within : l.place < length a.kept.now.items = omega (arith, c.loop-place-test.true, c.len-place-end.ensures, a.kept.now.ok) in
    let kept = kept_at (IsKept facts a.components.now a.units.now) a.kept.now.items l.kept.items l.place d c.requires.counted.kept within
    (l.invariant.left l.place d (omega arith)) c.index_mut.ensures.value in
    let marks = kept_with facts c.requires.once a.components.now a.units.now a.unit a.number c.requires.member row row_is c.requires.shown.fresh
    a.summary.now d kept is in
    let first : Option Summary = option_map (λ s. s.now) c.row-first.result in
    subst (λ ss. AreWith (marks_by d.startup d.day (option_and_then (known_from d.day ss) first) d.quarters) d.tallies.items)
    (sym c.as_slice-stops.ensures.value)
    (subst (λ o. AreWith (marks_by d.startup d.day (option_and_then (known_from d.day row.of_unit.stops) o) d.quarters) d.tallies.items)
    (sym c.row-first.ensures.value) marks)

pub returns-then-is_err : goal.returns-then-is_err
returns-then-is_err c = record {
  counted = λ after puts.
      counted_none (facts_in c.args.lists.now.store.now) c.args.components.now after c.args.units.now c.args.kept.now.items
      c.clear-then-is_err.new.self.items c.args.number c.args.summary.now c.requires.counted puts c.requires.orderly
      c.clear-then-is_err.ensures.items;
}

pub loop-place-preserved : goal.loop-place-preserved
loop-place-preserved c =
    let a = c.args in
    let facts = facts_in a.lists.now.store.now in
    let l = c.loop-place in
    let d = c.index_mut.result.now in
    let new = c.recount_day-done.new.kept in
    let row = c.in-Some.row.now in
    let row_is : row_of a.units.now a.unit ≡ Some row = sym (c.in-Some.ensures.value ∙ ap (row_of a.units.now) c.from.ensures) in
    let within : l.place < length a.kept.now.items = omega (arith, c.loop-place-test.true, c.len-place-end.ensures, a.kept.now.ok) in
    let inside : l.place < length l.kept.items = omega (arith, within, l.invariant.count) in
    let kept = kept_at (IsKept facts a.components.now a.units.now) a.kept.now.items l.kept.items l.place d c.requires.counted.kept within
    (l.invariant.left l.place d (omega arith)) c.index_mut.ensures.value in
    let recounted = ok_of c.recount_day-done.result (Recounts a.unit c.as_slice-stops.result.now (option_map (λ s. s.now) c.row-first.result) a.summary.now d new)
    c.recount_day-done.ensures.value (sym c.is_err.ensures.value ∙ c.if-is_err.false) in
    let first : Option Summary = option_map (λ s. s.now) c.row-first.result in
    let recounts : Recounts a.unit row.of_unit.stops (row_of a.components.now a.number) a.summary.now d new =
    subst (λ o. Recounts a.unit row.of_unit.stops o a.summary.now d new) c.row-first.ensures.value
    (subst (λ ss. Recounts a.unit ss first a.summary.now d new) c.as_slice-stops.ensures.value recounted) in
    record {
      count = length-set l.kept.items l.place new ∙ l.invariant.count;
      done = λ k e before held after puts. elim (cases_eq k l.place) [
        | inl here ↦
            subst (λ j. IsKept facts after a.units.now (get_or (set l.kept.items l.place new) j e)) (sym here)
            (subst (IsKept facts after a.units.now) (sym (get_or-set_same l.kept.items l.place new e inside))
            (kept_recounted facts c.requires.once a.components.now a.units.now a.unit a.number c.requires.member row row_is c.requires.shown.fresh
            a.summary.now after puts d new kept recounts))
        | inr other ↦
            subst (IsKept facts after a.units.now) (sym (get_or-set_other l.kept.items l.place k new e other))
            (l.invariant.done k e (omega (arith, before, other)) held after puts)
      ];
      left = λ k e behind.
          get_or-set_other l.kept.items l.place k new e (λ here. absurd (omega (arith, behind, here))) ∙ l.invariant.left k e (omega (arith, behind));
    }

pub returns : goal.returns
returns c =
    let a = c.args in
    let facts = facts_in a.lists.now.store.now in
    let l = c.loop-place in
    record {
      counted = λ after puts. record {
        orderly = rows_orderly a.components.now after a.number a.summary.now puts c.requires.orderly c.requires.counted.orderly;
        kept = all_from_places (IsKept facts after a.units.now) l.kept.items (λ k d within.
            l.invariant.done k d (omega (arith, within, l.invariant.count, c.len-place-end.ensures, a.kept.now.ok))
            (omega (arith, within, l.invariant.count)) after puts);
      };
    }
