use Rattle.std.proofs.Common.{◌++◌, take, sym, ap, ◌∙◌, arith}
use Rattle.std.specs.List.{filter_map}
use Rattle.std.specs.Option.{option_to_list}
use Rattle.touched_readings.specs.Windows.{window_of}
use Rattle.touched_readings.proofs.BatchLemmas.{given_next}
use Rattle.touched_readings.proofs.batch.put_windows.Goals as goal

pub loop-fact-preserved : goal.loop-fact-preserved
loop-fact-preserved c =
    let l = c.loop-fact in
    record {
      value = c.put-count.ensures.value ∙ ap (λ ws. ws ++ option_to_list c.window_of.result) l.invariant.value
          ∙ ap (λ o. filter_map window_of (take l.fact-index c.args.facts.now) ++ option_to_list o) c.window_of.ensures.value
          ∙ sym (given_next window_of c.args.facts.now l.fact-index c.fact-item.result c.loop-fact-test.true c.fact-item.is);
      few = omega (arith, c.put-count.ensures.count, l.invariant.few);
      length = c.put-count.ensures.length ∙ l.invariant.length;
    }
