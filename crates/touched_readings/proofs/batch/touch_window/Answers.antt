use Rattle.std.proofs.Common.{refl, ap, ◌∙◌, ◌&&◌, arith}
use Rattle.std.specs.Prelude.{not}
use Rattle.touched_readings.specs.Flags.{flag_of}
use Rattle.touched_readings.proofs.WindowLemmas.{listed_by_day, any_listed, few_listed}
use Rattle.touched_readings.proofs.batch.touch_window.Goals as goal

pub touch_between-requires-clause-ordered : goal.touch_between-requires-clause-ordered
touch_between-requires-clause-ordered g c =
    listed_by_day c.args.store.now c.args.window.now.instrument c.listed_readings-places.result.now c.listed_readings-places.ensures.value

pub returns-clause-value : goal.returns-clause-value
returns-clause-value g c = λ n.
    c.touch_between.ensures.value n
    ∙ ap (λ b. flag_of c.args.fresh.now n && not b)
    (any_listed c.args.store.now c.args.window.now.instrument c.listed_readings-places.result.now c.listed_readings-places.ensures.value
    c.args.window.now n refl)

pub returns-clause-counted : goal.returns-clause-counted
returns-clause-counted g c =
    omega (
      arith,
      c.touch_between.ensures.counted,
      few_listed c.args.store.now c.args.window.now.instrument c.listed_readings-places.result.now c.listed_readings-places.ensures.value,
    )
