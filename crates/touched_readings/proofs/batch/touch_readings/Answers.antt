use Rattle.std.proofs.Common.{take, ap, ◌∙◌, ◌&&◌, arith}
use Rattle.std.specs.Prelude.{not, sum_by}
use Rattle.std.specs.List.{filter_map}
use Rattle.touched_readings.specs.Flags.{flag_of}
use Rattle.touched_readings.specs.Windows.{readings_with, window_of}
use Rattle.touched_readings.proofs.BatchLemmas.{in_some, in_some_is, reads_fit}
use Rattle.touched_readings.proofs.batch.touch_readings.Goals as goal

pub returns-clause-value : goal.returns-clause-value
returns-clause-value g c = λ n.
    let facts = take c.args.store.now.listed c.args.store.now.arrived in
    c.touch_sorted.ensures.value n
    ∙ ap (λ b. flag_of c.args.fresh.now n && not b)
    (ap (in_some facts n) (c.put_windows-count.ensures.value ∙ ap (filter_map window_of) c.as_slice-facts.ensures.value)
    ∙ in_some_is facts c.args.batch.now n)

pub returns-clause-counted : goal.returns-clause-counted
returns-clause-counted g c =
    let arrived = c.args.store.now.arrived in
    omega (
      arith,
      c.touch_sorted.ensures.counted,
      ap (sum_by (λ w. readings_with w.instrument arrived)) (c.put_windows-count.ensures.value ∙ ap (filter_map window_of) c.as_slice-facts.ensures.value),
      reads_fit arrived c.args.batch.now.facts,
    )
