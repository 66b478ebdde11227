use Rattle.std.proofs.Common.{◌+◌, ap, Some, arith}
use Rattle.fact_kinds.specs.Fields.{big_endian}
use Rattle.report_table.proofs.CellLemmas.{joined}
use Rattle.report_table.proofs.ReadBack.{key_parts, same_item, same_key}
use Rattle.report_table.proofs.reading.key_at.Goals as goal

pub returns : goal.returns
returns c =
    let bytes = c.args.bytes.now in
    let at = c.args.at in
    let index = c.two_at-3.ensures.value in
    let number = joined bytes (big_endian 4 c.four_at.result) _ (at + 6) 4 2 (at + 10) (omega arith) c.four_at.ensures.value index in
    let handheld = joined bytes (big_endian 2 c.two_at-2.result) _ (at + 4) 2 6 (at + 6) (omega arith) c.two_at-2.ensures.value number in
    let minute = joined bytes (big_endian 2 c.two_at.result) _ (at + 2) 2 8 (at + 4) (omega arith) c.two_at.ensures.value handheld in
    record {
      value = joined bytes (big_endian 2 c.in_ok-day_at.field-0) _ at 2 10 (at + 2) (omega arith) c.in_ok-day_at.ensures.value minute;
      reads_back = λ given fits is.
          let parts = key_parts bytes at given is in
          ap Some (same_key _ given
          (same_item _ _ (c.in_ok-day_at.ensures.reads_back given.day fits.day parts.day))
          (c.two_at.ensures.reads_back given.minute fits.minute parts.minute)
          (c.two_at-2.ensures.reads_back given.handheld fits.handheld parts.handheld)
          (c.four_at.ensures.reads_back given.number fits.number parts.number)
          (c.two_at-3.ensures.reads_back given.index fits.index parts.index));
    }
