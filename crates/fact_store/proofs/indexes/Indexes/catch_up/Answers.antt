use Rattle.std.proofs.Common.{◌≡◌, length, subst, arith}
use Rattle.fact_store.specs.declared.naming.Naming.TheVariants.{Component, Unit as OfUnit, Tested, Reading}
use Rattle.fact_store.specs.Parts.{KeepTurn}
use Rattle.fact_store.proofs.indexes.Indexes.catch_up.Goals as goal

pub parts-init : goal.parts-init
parts-init c =
    let arrived = c.args.arrived.now in
    let spare = c.args.spare.now in
    let count = c.in_ok-counts.ensures.counted in
    record {
      within = omega arith;
      turned = c.in_ok-make_room.ensures.ok arrived spare c.requires.first count;
      counted = c.in_ok-make_room.ensures.counted arrived spare count;
    }

pub parts-preserved : goal.parts-preserved
parts-preserved c =
    record {
      within = omega (arith, c.end_of_part-to.ensures.value);
      turned = c.push_part.ensures.turned c.args.spare.now c.parts.invariant.turned;
      counted = c.push_part.ensures.counted c.args.spare.now c.in_ok-counts.counts c.parts.invariant.counted;
    }

pub returns-clause-ok : goal.returns-clause-ok
returns-clause-ok c =
    let arrived = c.args.arrived.now in
    let spare = c.args.spare.now in
    let end : c.parts.from ≡ length arrived = omega (arith, c.parts-test.false, c.parts.invariant.within) in
    let keep = subst (λ n. KeepTurn arrived spare n c.parts.self) end c.parts.invariant.turned in
    record {
      by_component = c.settle.ensures.value Component spare keep.by_component;
      by_unit = c.settle-2.ensures.value OfUnit spare keep.by_unit;
      by_instrument = c.settle-3.ensures.value Tested spare keep.by_instrument;
      by_reading = c.settle-4.ensures.value Reading spare keep.by_reading;
    }
