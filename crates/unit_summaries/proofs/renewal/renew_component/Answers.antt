use Rattle.std.proofs.Common.{Some, sym, ap, ◌∙◌}
use Rattle.fact_store.specs.Kept.{facts_in}
use Rattle.ldar_law.specs.declared.equipment.Equipment.{Equipment}
use Rattle.unit_summaries.proofs.KeptLemmas.{counted_rows}
use Rattle.unit_summaries.proofs.KnownLemmas.{summary_orderly}
use Rattle.unit_summaries.proofs.renewal.renew_component.Goals as goal

pub returns-in_err-make_room-clause-kept : goal.returns-in_err-make_room-clause-kept
returns-in_err-make_room-clause-kept g c =
    counted_rows (facts_in c.args.lists.now.store.now) c.args.table.now c.make_room.new.self c.args.units.now c.args.kept.now.items
    c.make_room.ensures.same c.requires.kept

pub returns-in_err-summary-clause-kept : goal.returns-in_err-summary-clause-kept
returns-in_err-summary-clause-kept g c =
    counted_rows (facts_in c.args.lists.now.store.now) c.args.table.now c.make_room.new.self c.args.units.now c.args.kept.now.items
    c.make_room.ensures.same c.requires.kept

pub recount-requires-clause-orderly : goal.recount-requires-clause-orderly
recount-requires-clause-orderly g c =
    let facts = facts_in c.args.lists.now.store.now in
    let s = c.in_ok-summary.summary in
    let item = c.in_ok-summary.ensures.item in
    summary_orderly facts c.args.number s
    (record {
      named = ap (λ (i : Equipment). i.component) item ∙ c.requires.named;
      equipment = c.requires.entered ∙ ap Some (sym item);
      judged = c.in_ok-summary.ensures.value;
    }) c.requires.ordered

pub recount-requires-clause-counted : goal.recount-requires-clause-counted
recount-requires-clause-counted g c =
    counted_rows (facts_in c.args.lists.now.store.now) c.args.table.now c.make_room.new.self c.args.units.now c.args.kept.now.items
    c.make_room.ensures.same c.requires.kept

pub returns-clause-kept : goal.returns-clause-kept
returns-clause-kept g c = c.recount.ensures.counted c.put.new.self c.put.ensures.value
