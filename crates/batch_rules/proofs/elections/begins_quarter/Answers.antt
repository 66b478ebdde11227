use Rattle.std.proofs.Common.{sym, arith}
use Rattle.batch_rules.proofs.QuarterLemmas.{begins_no_quarter}
use Rattle.batch_rules.proofs.elections.begins_quarter.Goals as goal

pub returns-then-number-gt-LAST_FACT_DAY : goal.returns-then-number-gt-LAST_FACT_DAY
returns-then-number-gt-LAST_FACT_DAY c = record {
  value = sym (begins_no_quarter c.args.startup c.args.day
      (omega (arith, c.if-number-gt-LAST_FACT_DAY.true, c.number.ensures.value)) (omega (arith, c.requires.in_time)));
}
