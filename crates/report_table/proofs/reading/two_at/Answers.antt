use Rattle.std.proofs.Common.{arith}
use Rattle.report_table.proofs.CellLemmas.{two_spelled}
use Rattle.report_table.proofs.ReadBack.{two_read}
use Rattle.report_table.proofs.reading.two_at.Goals as goal

pub returns : goal.returns
returns c = record {
  value = two_spelled c.args.bytes.now c.args.at c.from_be_bytes.result (omega arith) (λ i. omega (arith, c.type_inv.bytes i)) (omega arith);
  reads_back = λ given fits is. omega (arith, two_read c.args.bytes.now c.args.at given (omega arith) fits is);
}
