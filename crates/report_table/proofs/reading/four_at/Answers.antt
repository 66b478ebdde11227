use Rattle.std.proofs.Common.{◌+◌, ◌*◌, ◌/◌, ◌%◌, arith}
use Rattle.report_table.proofs.CellLemmas.{four_spelled}
use Rattle.report_table.proofs.ReadBack.{four_halves}
use Rattle.report_table.proofs.reading.four_at.Goals as goal

pub returns : goal.returns
returns c = record {
  value = four_spelled c.args.bytes.now c.args.at c.two_at-high.result c.two_at-low.result (c.from.result * 65_536 + c.from-2.result)
      c.two_at-high.ensures.value c.two_at-low.ensures.value (omega arith) (omega arith) (omega arith);
  reads_back = λ given fits is.
      let halves = four_halves c.args.bytes.now c.args.at given fits is in
      let high = c.two_at-high.ensures.reads_back (given / 65_536) (omega (arith, fits)) halves.0 in
      let low = c.two_at-low.ensures.reads_back (given % 65_536) (omega arith) halves.1 in
      omega (arith, high, low);
}
