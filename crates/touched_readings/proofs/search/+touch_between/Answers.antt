use Rattle.std.proofs.Common.{rules, ◌∙◌, ap, arith, length, ◌/◌, ◌&&◌}
use Rattle.std.proofs.lemmas.Bool.Decides.{nat_tests}
use Rattle.std.specs.Prelude.{not}
use Rattle.fact_kinds.specs.Named.{component_of}
use Rattle.touched_readings.specs.Flags.{flag_of}
use Rattle.touched_readings.proofs.SearchLemmas.{back_held, front_held, back_in_order, front_in_order, all_after, all_before, all_around}
use Rattle.touched_readings.proofs.search.+touch_between.Goals as goal

pub touch_between-requires : goal.touch_between-requires
touch_between-requires g t c κs within =
    let mid = length c.args.places.now / 2 in (
      search rules,
      (
        search rules,
        (
          back_held _ mid c.args.places.now c.requires.held,
          back_in_order c.args.store.now.arrived mid c.args.places.now c.requires.ordered,
        ),
      ),
    )

pub touch_between-requires-then-is_before : goal.touch_between-requires-then-is_before
touch_between-requires-then-is_before g t c κs within =
    let mid = length c.args.places.now / 2 in (
      search rules,
      (
        search rules,
        (
          front_held _ mid c.args.places.now c.requires.held,
          front_in_order c.args.store.now.arrived mid c.args.places.now c.requires.ordered,
        ),
      ),
    )

pub touch_between-requires-2 : goal.touch_between-requires-2
touch_between-requires-2 g t c κs within =
    let mid = length c.args.places.now / 2 in (
      search rules,
      (
        search rules,
        (
          front_held _ mid c.args.places.now c.requires.held,
          front_in_order c.args.store.now.arrived mid c.args.places.now c.requires.ordered,
        ),
      ),
    )

pub touch_between-requires-3 : goal.touch_between-requires-3
touch_between-requires-3 g t c κs within =
    let mid = length c.args.places.now / 2 in (
      search rules,
      (
        search rules,
        (
          back_held _ mid c.args.places.now c.requires.held,
          back_in_order c.args.store.now.arrived mid c.args.places.now c.requires.ordered,
        ),
      ),
    )

pub returns-then-is_after-clause-value : goal.returns-then-is_after-clause-value
returns-then-is_after-clause-value g t c = λ n.
    c.touch_between.ensures.value n
    ∙ ap (λ b. flag_of c.args.fresh.now n && not b) (all_after c.args.store.now.arrived c.args.window.now n (length c.args.places.now / 2)
    c.args.places.now _ c.look.ensures.value c.requires.ordered (grind (arith, nat_tests, c.is_after.ensures.value, c.if-is_after.true)))

pub returns-then-is_before-clause-value : goal.returns-then-is_before-clause-value
returns-then-is_before-clause-value g t c = λ n.
    c.touch_between-then-is_before.ensures.value n
    ∙ ap (λ b. flag_of c.args.fresh.now n && not b) (all_before c.args.store.now.arrived c.args.window.now n (length c.args.places.now / 2)
    c.args.places.now _ c.look.ensures.value c.requires.ordered (grind (arith, nat_tests, c.is_before.ensures.value, c.if-is_before.true)))

pub returns-clause-value : goal.returns-clause-value
returns-clause-value g t c = λ n.
    all_around c.args.store.now.arrived c.args.window.now n (length c.args.places.now / 2)
    c.args.places.now _ c.look.ensures.value c.requires.ordered (grind (arith, nat_tests, c.is_after.ensures.value, c.if-is_after.false)) (grind (arith, nat_tests, c.is_before.ensures.value, c.if-is_before.false))
    (flag_of c.args.fresh.now n) (flag_of c.clear.new.fresh n) (flag_of c.touch_between-2.new.fresh n) (flag_of c.touch_between-3.new.fresh n)
    c.component_of.result (c.component_of.ensures.value ∙ ap (λ s. component_of s.body) c.fact.view_is) (c.clear.ensures.value n) (c.touch_between-2.ensures.value n) (c.touch_between-3.ensures.value n)
