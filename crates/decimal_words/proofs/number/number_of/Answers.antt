use Rattle.decimal_words.proofs.NumberLemmas.{number_more}
use Rattle.decimal_words.proofs.number.number_of.Goals as goal

pub loop-digit-preserved : goal.loop-digit-preserved
loop-digit-preserved c =
    number_more c.args.digits.now c.loop-digit.digit-index c.loop-digit.number c.from.result c.min-number.result
    c.loop-digit-test.true c.requires c.loop-digit.invariant c.from.ensures c.min-number.ensures
