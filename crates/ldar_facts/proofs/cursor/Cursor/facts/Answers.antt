use Rattle.std.proofs.Common.{Ok, ap, ◌∙◌, arith}
use Rattle.std.proofs.lemmas.Result.{err_from_is_err_and}
use Rattle.ldar_facts.proofs.FactSteps.{goes_on, stops, ends, same_list}
use Rattle.ldar_facts.proofs.cursor.Cursor.facts.Goals as goal

pub returns-in_err-next_fact : goal.returns-in_err-next_fact
returns-in_err-next_fact c =
    let p = err_from_is_err_and c.from_residual.result c.from_residual.ensures.1 in
    rw (p.1, p.2) (stops c.args.count c.loop.counter c.loop.facts.items c.loop.self _ c.loop.invariant.same (omega arith)
    c.in_err-next_fact.field-0.0 c.in_err-next_fact.ensures.stopped)

pub loop-preserved : goal.loop-preserved
loop-preserved c =
    let ensured = c.in_ok-next_fact.ensures in
    let taken = ensured.taken in
    record {
      len = omega (arith, ensured.len, c.loop.invariant.len);
      fits = omega (arith, ensured.capacity, c.loop.invariant.fits);
      same = rw taken.items (goes_on c.args.count c.loop.counter c.loop.facts.items c.loop.self _ c.loop.invariant.same (omega arith)
          taken.fact c.next_fact.new.self taken.read);
    }

pub returns : goal.returns
returns c =
    let read = ends c.args.count c.loop.counter c.loop.facts.items c.loop.self _ c.loop.invariant.same (omega arith) in
    read ∙ ap (λ l. Ok (l, c.loop.self)) (same_list c.loop.facts.items c.unwrap.result c.new.result c.unwrap.ensures c.new.ensures.value)
