use Rattle.std.proofs.Common.{◌∙◌, arith}
use Rattle.touched_readings.specs.Flags.{flag_of}
use Rattle.touched_readings.proofs.FlagLemmas.{flag_set, flag_past, numbered_as}
use Rattle.touched_readings.proofs.search.clear.Goals as goal

pub returns-then-at-fresh-clause-value : goal.returns-then-at-fresh-clause-value
returns-then-at-fresh-clause-value c = λ n.
    flag_set c.args.fresh.now c.from-at.result n (omega (arith, c.if-at-fresh.true))
    ∙ numbered_as (flag_of c.args.fresh.now n) c.args.component c.in-Some.component c.from-at.result n c.in-Some.is c.from-at.ensures

pub returns-else-at-fresh-clause-value : goal.returns-else-at-fresh-clause-value
returns-else-at-fresh-clause-value c = λ n.
    flag_past c.args.fresh.now c.from-at.result n (omega (arith, c.if-at-fresh.false))
    ∙ numbered_as (flag_of c.args.fresh.now n) c.args.component c.in-Some.component c.from-at.result n c.in-Some.is c.from-at.ensures
