use Rattle.std.proofs.Common.{[], ◌∷◌, ◌++◌, length, length-append, sym, ap, ◌∙◌, arith}
use Rattle.unit_summaries.proofs.ReadLemmas.{read_more}
use Rattle.unit_summaries.proofs.reads.read.Goals as goal

pub loop-place-preserved : goal.loop-place-preserved
loop-place-preserved g c =
    let arrived = c.args.store.now.arrived in
    let l = c.loop-place in
    let key = c.fact.result.0.now in
    let fact = c.fact.result.1.now in
    record {
      value = c.push_reserved.ensures.items ∙ ap (λ xs. xs ++ (key, fact) ∷ []) l.invariant.value
          ∙ sym (read_more arrived c.args.places.now l.place-index _ (key, fact) c.loop-place-test.true c.fact.ensures.value);
      long = omega (
        arith,
        ap length c.push_reserved.ensures.items,
        length-append l.facts.items ((key, fact) ∷ []),
        l.invariant.long,
      );
      room = omega (arith, l.invariant.room, c.push_reserved.ensures.capacity);
      counted = omega (arith, c.fact.ensures.counted, l.invariant.counted);
    }
