use Rattle.std.proofs.Common.{take, ap, ◌∙◌, ◌&&◌, arith}
use Rattle.std.specs.Prelude.{not}
use Rattle.touched_readings.specs.Flags.{flag_of}
use Rattle.touched_readings.proofs.BatchLemmas.{in_some_sorted, reads_sorted}
use Rattle.touched_readings.proofs.batch.touch_sorted.Goals as goal

pub returns-clause-value : goal.returns-clause-value
returns-clause-value g c = λ n.
    c.touch_windows.ensures.value n
    ∙ ap (λ b. flag_of c.args.fresh.now n && not b)
    (in_some_sorted (take c.args.store.now.listed c.args.store.now.arrived) n c.args.windows.now c.sort_windows.new.windows c.sort_windows.ensures.same)

pub returns-clause-counted : goal.returns-clause-counted
returns-clause-counted g c =
    omega (
      arith,
      c.touch_windows.ensures.counted,
      reads_sorted c.args.store.now.arrived c.args.windows.now c.sort_windows.new.windows c.sort_windows.ensures.same,
    )
