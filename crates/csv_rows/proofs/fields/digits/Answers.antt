use Rattle.std.proofs.Common.{◌+◌, ◌*◌, arith}
use Rattle.csv_rows.proofs.DigitLemmas.{too_great_at}
use Rattle.csv_rows.proofs.fields.digits.Goals as goal

pub returns-then-number-high : goal.returns-then-number-high
returns-then-number-high c =
    record {
      value =
          too_great_at c.args.text.now c.loop-byte.byte-index c.loop-byte.number c.args.high (10 * c.loop-byte.number + c.from.result) (omega arith)
          c.loop-byte.invariant.0 (omega arith) (omega arith);
    }
