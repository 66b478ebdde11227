use Rattle.std.proofs.Common.{subst}
use Rattle.fact_store.specs.Kept.{facts_in}
use Rattle.unit_summaries.specs.Rows.{PutsRow}
use Rattle.unit_summaries.proofs.KeptLemmas.{counted_put_unit, counted_units}
use Rattle.unit_summaries.proofs.renewal.renew_unit.Goals as goal

pub returns-in_err-make_room-clause-kept : goal.returns-in_err-make_room-clause-kept
returns-in_err-make_room-clause-kept g c = λ components are.
    counted_units (facts_in c.args.lists.now.store.now) components c.args.table.now c.make_room.new.self c.args.kept.now.items
    c.make_room.ensures.same are

pub returns-in_err-summary-clause-kept : goal.returns-in_err-summary-clause-kept
returns-in_err-summary-clause-kept g c = λ components are.
    counted_units (facts_in c.args.lists.now.store.now) components c.args.table.now c.make_room.new.self c.args.kept.now.items
    c.make_room.ensures.same are

pub returns-clause-kept : goal.returns-clause-kept
returns-clause-kept g c = λ components are.
    let mid = c.make_room.new.self in
    let row = c.in_ok-summary.summary in
    counted_put_unit (facts_in c.args.lists.now.store.now) components c.args.unit row c.args.table.now mid c.put.new.self c.args.kept.now.items
    c.drop_kept.new.kept.items c.make_room.ensures.same (subst (λ n. PutsRow n row mid c.put.new.self) c.from-3.ensures c.put.ensures.value)
    c.drop_kept.ensures.value are
